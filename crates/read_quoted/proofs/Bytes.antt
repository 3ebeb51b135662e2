-- Pattern bytes: each pair of a block and each element of a pattern is one turn of a storing loop.
use mathlib.Core.Path.{◌≡◌, refl, sym}
use mathlib.Core.Bool.{true, false}
use mathlib.Core.List.{List, [], ◌∷◌, ◌++◌, append_assoc, append-nil}
use Prim.Native.Nat.{ℕ, ◌+◌, ◌-◌, ◌≤◌, ◌<◌}
use native.Mathlib.Omega.{arith}
use lib.ListN.{length, drop, get_or}
use Rattle.forms.specs.Scan.{begins, first_set}
use Rattle.definitions.specs.Numbers.{hex_digits}
use Rattle.definitions.specs.Forms as forms
use Rattle.definitions.specs.Forms.{spaces, hex_pair, block, plain_bytes, pattern_bytes}
use Rattle.read_value.specs.Values.{PatternBytes, appended}
use Rattle.scan_cursors.specs.declared.Cursor.{Cursor}
use Rattle.scan_cursors.specs.declared.Cursor.TheVariants.{Parsed, Failed}
use Rattle.scan_cursors.specs.Reads.{Reads}
use Rattle.scan_cursors.proofs.Readings.{fmap_reads, terminated_reads, failed_reads}
use Rattle.scan_cursors.proofs.Choices.{first_reads, second_reads}
use Rattle.scan_cursors.proofs.Onward.{ahead_more}
use Rattle.scan_pieces.proofs.AtPlace.{byte_begun}
use Rattle.read_quoted.specs.Storing.{spaced_pair, hex_pairs, element, Ready, Stores}
use Rattle.read_quoted.proofs.Halting.{halted}
use Rattle.read_quoted.proofs.Appended.{appended_none, Writing, Writes, writes_ready, writes-on, writes-last, writes_stop}

-- ---- the pairs of a block

abbrev pub pair_writing : Writing spaced_pair hex_pairs
pair_writing = record { full = refl; bytes = λ vs. vs; one = λ v. v ∷ []; none = refl; snoc = λ vs v. refl; read = λ s at vs d r. r }

module _ (s : List ℕ) (at : ℕ) (room : PatternBytes) (ready : Ready s (Parsed at) room) {here : ℕ} {to : PatternBytes}
    (u : Writes pair_writing s at room here to) {v : ℕ} {d : Cursor} (r : Reads hex_pair s (Parsed here) v d) where
  pub pairs_halt : ((n : ℕ) → d ≡ Parsed n → ⊥) → Stores hex_pairs s (Parsed at) room to d
  pairs_halt k =
      let z = halted d k refl r in
      let q : d ≡ Failed z.0 = z.1 in
      let r' : Reads hex_pair s (Parsed here) v (Failed z.0) = rw q at r in
      let stop = terminated_reads u.turns.inside r' (failed_reads spaces s z.0 [] r'.inside) in
      rw q (writes_stop pair_writing s at room ready u v [] stop (appended_none to))

  module _ {n : ℕ} (e : d ≡ Parsed n) where
    told : Reads hex_pair s (Parsed here) v (Parsed n)
    told = rw e at r

    pub pair_end : n ≤ length s
    pair_end = told.inside

    pub pair_room : to.used < length to.bytes
    pair_room = let w = writes_ready pair_writing s at room ready u in omega (arith, w.after, w.short, w.full, pair_end, ahead_more w.inside told refl)

    module _ {x : List ℕ} {next : ℕ} (q : Reads spaces s (Parsed n) x (Parsed next)) where
      spaced : Reads spaced_pair s (Parsed here) v (Parsed next)
      spaced = terminated_reads u.turns.inside told q

      further : here < next
      further = omega (arith, ahead_more u.turns.inside spaced refl)

      pub pairs-less : length s - next < length s - here
      pairs-less = omega (arith, further, q.inside)

      module _ {to' : PatternBytes} (k : to' ≡ appended to (v ∷ [])) where
        pub pairs-on : begins hex_digits (drop next s) ≡ true → Writes pair_writing s at room next to'
        pairs-on t = writes-on pair_writing s at room ready u v spaced k (omega (arith, further)) t

        pub pairs-last : begins hex_digits (drop next s) ≡ false → Stores hex_pairs s (Parsed at) room to' (Parsed next)
        pairs-last t = writes-last pair_writing s at room ready u v spaced k (omega (arith, further)) t

-- ---- the elements of a pattern

pub joined_snoc : (vs : List (List ℕ)) (v : List ℕ) → forms.concatenated (vs ++ (v ∷ [])) ≡ forms.concatenated vs ++ v
joined_snoc [] v = append-nil v
joined_snoc (x ∷ vs) v = rw (joined_snoc vs v) (sym (append_assoc x (forms.concatenated vs) v))

abbrev pub element_writing : Writing element pattern_bytes
element_writing =
    record {
      full = refl;
      bytes = forms.concatenated;
      one = λ v. v;
      none = refl;
      snoc = joined_snoc;
      read = λ s at vs d r. fmap_reads forms.concatenated r;
    }

module _ (s : List ℕ) (at : ℕ) (room : PatternBytes) (ready : Ready s (Parsed at) room) {here : ℕ} {to to' : PatternBytes}
    (u : Writes element_writing s at room here to) {d : Cursor} (r : Stores element s (Parsed here) to to' d) where
  pub elements_halt : ((n : ℕ) → d ≡ Parsed n → ⊥) → Stores pattern_bytes s (Parsed at) room to' d
  elements_halt k =
      let z = halted d k refl r.1.read in
      let q : d ≡ Failed z.0 = z.1 in
      rw q (writes_stop element_writing s at room ready u r.0 r.0 (rw q at r.1.read) r.1.kept)

  module _ {n : ℕ} (e : d ≡ Parsed n) where
    told_element : Reads element s (Parsed here) r.0 (Parsed n)
    told_element = rw e at r.1.read

    pub elements_less : length s - n < length s - here
    elements_less = omega (arith, ahead_more u.turns.inside told_element refl, told_element.inside)

    pub elements_on : begins (first_set element) (drop n s) ≡ true → Writes element_writing s at room n to'
    elements_on t = writes-on element_writing s at room ready u r.0 told_element r.1.kept (r.1.grown n e) t

    pub elements_last : begins (first_set element) (drop n s) ≡ false → Stores pattern_bytes s (Parsed at) room to' (Parsed n)
    elements_last t = writes-last element_writing s at room ready u r.0 told_element r.1.kept (r.1.grown n e) t

-- a plain byte, or a block
module _ (s : List ℕ) (at : ℕ) (room : PatternBytes) where
  pub plain_stored : {to : PatternBytes} → begins plain_bytes (drop at s) ≡ true → to ≡ appended room (get_or s at 0 ∷ [])
      → Stores element s (Parsed at) room to (Parsed (at + 1))
  plain_stored t e = (
    get_or s at 0 ∷ [],
    record {
      read = first_reads refl t (fmap_reads (λ (b : ℕ). b ∷ []) (byte_begun plain_bytes s at t));
      kept = e;
      grown = λ n q. let z : at + 1 ≡ n = cc in omega (arith, z);
    },
  )

  pub block_stored : {to : PatternBytes} {d : Cursor} → begins plain_bytes (drop at s) ≡ false → Stores block s (Parsed at) room to d
      → Stores element s (Parsed at) room to d
  block_stored t r = (r.0, record { read = second_reads refl t r.1.read; kept = r.1.kept; grown = r.1.grown })
