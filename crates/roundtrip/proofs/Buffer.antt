-- WHAT IS WRITTEN into a buffer reads as the table that was written: a text is written only if the table is well formed and its canonical text is short
-- enough, and the front of the buffer is then the canonical text. And a writer that writes nothing is ruled out (`canonical_written`).
use Rattle.std.specs.Prelude.{Result, Ok, Err}
use mathlib.Core.Path.{◌≡◌, refl, ap}
use mathlib.Core.Bool.{Bool, true, false, not}
use mathlib.Core.List.{List, ◌++◌}
use Prim.Native.Nat.{ℕ, ◌≤◌}
use native.Mathlib.Omega.{arith}
use lib.ListN.{length, take, drop}
use lib.Seq.{take_at}
use lib.Dec.{ltb}
use borrow.Author.Tests.{ltb-false, le-ltb, not-false}
use Rattle.forms.proofs.Sound.{never}
use Rattle.definitions.specs.declared.answers.Refusal.{Refusal}
use Rattle.definitions.specs.declared.answers.Refusal.TheVariants as refusal
use Rattle.definitions.specs.declared.table.Table.{Table}
use Rattle.definitions.specs.Limits.{Limits}
use Rattle.definitions.specs.Refusals.{refuse_if}
use Rattle.definitions.specs.Reading.{accepted_reading, read}
use Rattle.definitions.specs.WellFormed.{Shaped, well_formed}
use Rattle.definitions.specs.Canonical.{canonical_text}
use Rattle.definitions.specs.Writing.{writing_check, written_if, buffer_if, writes, buffer_after}
use Rattle.syntax.proofs.Exact.{read_exactly}
use Rattle.roundtrip.proofs.Canonical.{canonical_derives}

check_parts : (a b c : Bool) (p q r : Refusal) → refuse_if a p (refuse_if b q (refuse_if c r (Ok tt))) ≡ Ok tt → (a ≡ false) × (b ≡ false)
check_parts true b c p q r e = never (cc)
check_parts false true c p q r e = never (cc)
check_parts false false c p q r e = (refl, refl)

check_written : (d : Result Unit Refusal) (l n : ℕ) → written_if d l ≡ Ok n → (d ≡ Ok tt) × (l ≡ n)
check_written (Ok tt) l n e = (refl, cc)
check_written (Err r) l n e = never (cc)

check_buffer : (d : Result Unit Refusal) (canonical out : List ℕ) (n : ℕ) → d ≡ Ok tt → length canonical ≡ n → take n (buffer_if d canonical out) ≡ canonical
check_buffer (Ok tt) canonical out n e l = take_at canonical (drop (length canonical) out) n l
check_buffer (Err r) canonical out n e l = never (cc)

pub written_reads : (lim : Limits) (t : Table) (out : List ℕ) (n : ℕ) → Shaped lim.room t → lim.canonical ≤ lim.text → writes lim t out ≡ Ok n
    → read lim (take n (buffer_after lim t out)) ≡ accepted_reading t
unfolding writes buffer_after writing_check
written_reads lim t out n h g e =
    let d = check_written (writing_check lim t (length out)) (length (canonical_text t)) n e in
    let k = check_parts (not (well_formed t)) (ltb lim.canonical (length (canonical_text t)))
    (ltb (length out) (length (canonical_text t))) refusal.IllFormed refusal.CanonicalLength refusal.ShortBuffer d.0 in
    let l = ltb-false lim.canonical (length (canonical_text t)) k.1 in
    rw (check_buffer (writing_check lim t (length out)) (canonical_text t) out n d.0 d.1)
    ((read_exactly lim (canonical_text t) t).1 (canonical_derives lim.room t h (not-false (well_formed t) k.0), omega (arith, l, g)))

pub nothing_check : (lim : Limits) (t : Table) (n : ℕ) → well_formed t ≡ true → length (canonical_text t) ≤ lim.canonical → length (canonical_text t) ≤ n
    → writing_check lim t n ≡ Ok tt
unfolding writing_check
nothing_check lim t n w h g = rw (w, le-ltb lim.canonical (length (canonical_text t)) h, le-ltb n (length (canonical_text t)) g)

-- every well-formed table whose canonical text is short enough is written into every buffer that has room for it
pub canonical_written : (lim : Limits) (t : Table) (out : List ℕ) → well_formed t ≡ true → length (canonical_text t) ≤ lim.canonical
    → length (canonical_text t) ≤ length out
    → (writes lim t out ≡ Ok (length (canonical_text t))) × (buffer_after lim t out ≡ canonical_text t ++ drop (length (canonical_text t)) out)
unfolding writes buffer_after
canonical_written lim t out w h g =
    let d = nothing_check lim t (length out) w h g in
    (ap (λ (x : Result Unit Refusal). written_if x (length (canonical_text t))) d, ap (λ (x : Result Unit Refusal). buffer_if x (canonical_text t) out) d)
