-- An option with nothing beside its value.
use mathlib.Core.Path.{◌≡◌, refl}
use mathlib.Core.Bool.{true}
use mathlib.Core.List.{List, []}
use Prim.Native.Nat.{ℕ, ◌≤◌}
use lib.ListN.{length, replicate}
use Rattle.forms.specs.Scan.{is_ll1}
use Rattle.definitions.specs.declared.table.Address.{Address}
use Rattle.definitions.specs.Limits.{max_addresses}
use Rattle.definitions.specs.Tables.{no_address}
use Rattle.read_names.specs.declared.options.OptionName.{OptionName}
use Rattle.read_names.specs.declared.options.OptionName.TheVariants as option
use Rattle.read_names.specs.Names.{form_of}
use Rattle.read_value.specs.declared.Value.{Value}
use Rattle.read_value.specs.declared.Value.TheVariants as value
use Rattle.read_value.specs.Values.{pattern_bytes_of, Plain}
use Rattle.scan_cursors.specs.declared.Scanned.{Scanned}
use Rattle.read_state.specs.State.{Apart}
use Rattle.read_quoted.proofs.Appended.{appended_none}
use Rattle.read_by_name.specs.Parsing.{ReadsAlone, Parses}
use Rattle.read_by_name.proofs.EndPlaces.{grown_none}

plain_apart : (s : List ℕ) (v : Value) → Plain v → Apart s v [] []
plain_apart s (value.Name from n) p = absurd p
plain_apart s (value.Protocol q) p = (refl, refl)
plain_apart s (value.Flow f) p = (refl, refl)
plain_apart s (value.Test it) p = (refl, refl)
plain_apart s (value.Addresses a) p = absurd p
plain_apart s (value.Pattern negated n) p = absurd p
plain_apart s (value.Context c) p = (refl, refl)
plain_apart s value.NoCase p = (refl, refl)
plain_apart s (value.Distance d) p = (refl, refl)
plain_apart s (value.Within w) p = (refl, refl)

-- one byte tells how each form goes on
fair : (o : OptionName) → is_ll1 (form_of o) ≡ true
unfolding form_of
fair option.Name = refl
fair option.Protocol = refl
fair option.Flow = refl
fair option.SourceAddress = refl
fair option.DestinationAddress = refl
fair option.SameIp = refl
fair option.IpId = refl
fair option.SourcePort = refl
fair option.DestinationPort = refl
fair option.IpTos = refl
fair option.IpTtl = refl
fair option.HeaderTotalLength = refl
fair option.HeaderId = refl
fair option.HeaderChecksum = refl
fair option.HeaderTtl = refl
fair option.DataSize = refl
fair option.DataAt = refl
fair option.ByteTest = refl
fair option.Pattern = refl
fair option.Context = refl
fair option.NoCase = refl
fair option.Distance = refl
fair option.Within = refl

pub plain_parses : (o : OptionName) {s : List ℕ} {at used : ℕ} {v : Scanned Value} {l : List Address} → at ≤ length s → ReadsAlone (form_of o) s at v
    → l ≡ replicate max_addresses no_address → (bytes : List ℕ)
    → Parses (form_of o) s at (pattern_bytes_of bytes used) (pattern_bytes_of bytes used) (record { value = v.value; list = l; used = used; cursor = v.cursor })
plain_parses o {s} {used = used} {v} h q e bytes =
    record {
      al = [];
      b = [];
      reads = q.0;
      kept = e;
      stored = appended_none (pattern_bytes_of bytes used);
      apart = λ n g. plain_apart s v.value q.1;
      grown = λ n g. grown_none (fair o) h q.0 n g;
    }
