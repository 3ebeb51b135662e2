-- Storing while reading: a loop over `some` that appends the bytes of each value it reads has appended the bytes of them all.
use mathlib.Core.Path.{◌≡◌, sym, ap, ◌∙◌}
use mathlib.Core.Bool.{true, false, not}
use mathlib.Core.List.{List, [], ◌∷◌, ◌++◌}
use Prim.Native.Nat.{ℕ, suc, ◌+◌, ◌≤◌}
use native.Mathlib.Omega.{arith}
use lib.ListN.{length, drop, set, length-append}
use lib.Seq.{sets, length-sets}
use Rattle.forms.specs.Form.{Form}
use Rattle.forms.specs.Scan.{nullable, first_set, begins, is_ll1}
use Rattle.forms.specs.Pieces.{preceded, terminated, some}
use Rattle.forms.proofs.Sound.{never}
use Rattle.read_value.specs.Values.{PatternBytes, appended}
use Rattle.scan_cursors.specs.declared.Cursor.{Cursor}
use Rattle.scan_cursors.specs.declared.Cursor.TheVariants.{Parsed, Failed}
use Rattle.scan_cursors.specs.Reads.{Inside, Reads}
use Rattle.scan_cursors.proofs.Readings.{preceded_reads, terminated_reads, failed_any}
use Rattle.scan_cursors.proofs.Onward.{came_parsed, parsed_place, onward}
use Rattle.read_quoted.specs.Storing.{Ready, Stored, Stores}
use Rattle.scan_cursors.proofs.Repeated.{Some, some_on, some_last, some_stop}

-- ---- bytes after bytes

sets_append : (l : List ℕ) (i : ℕ) (a b : List ℕ) → sets (sets l i a) (i + length a) b ≡ sets l i (a ++ b)
sets_append l i [] b = let e : i + 0 ≡ i = omega arith in rw e
sets_append l i (x ∷ a) b = let e : i + suc (length a) ≡ suc i + length a = omega arith in rw e (sets_append (set l i x) (suc i) a b)

pub appended_none : (room : PatternBytes) → room ≡ appended room []
appended_none room = let e : room.used ≡ room.used + 0 = omega arith in ap (λ (n : ℕ). record { bytes = room.bytes; used = n }) e

appended_twice : (room : PatternBytes) (a b : List ℕ) → appended (appended room a) b ≡ appended room (a ++ b)
appended_twice room a b =
    let e : room.used + length a + length b ≡ room.used + length (a ++ b) = omega (arith, length-append a b) in
    rw (e, sets_append room.bytes room.used a b)

-- bytes take the place of others
appended_same : (room : PatternBytes) {to : PatternBytes} (b : List ℕ) → to ≡ appended room b → length to.bytes ≡ length room.bytes
appended_same room b e = ap (λ (r : PatternBytes). length r.bytes) e ∙ length-sets room.bytes room.used b

-- ---- what stands around stored bytes stores nothing

pub ready_on : {A : Type 0} {f : Form A} {s : List ℕ} {c d : Cursor} {room : PatternBytes} {v : A} → is_ll1 f ≡ true → Ready s c room → Reads f s c v d
    → Ready s d room
ready_on w u r = record { inside = r.inside; short = u.short; after = omega (arith, u.after, onward w u.inside r); full = u.full }

module _ {A : Type 0} {f : Form A} {F : Form (List ℕ)} {s : List ℕ} {room to : PatternBytes} {b : List ℕ} {c d e : Cursor} {v : A} (w : is_ll1 f ≡ true) where
  pub stored_after : Inside s c → Reads f s c v d → Stored F s d room b to e → Stored (preceded f F) s c room b to e
  stored_after i r u =
      record { read = preceded_reads i r u.read; kept = u.kept; grown = λ n g. omega (arith, u.grown n g, onward w i r) }

  pub stored_before : Inside s c → Stored F s c room b to d → Reads f s d v e → Stored (terminated F f) s c room b to e
  stored_before i u r =
      record {
        read = terminated_reads i u.read r;
        kept = u.kept;
        grown = λ n g.
            let m = came_parsed r g in
            omega (arith, u.grown m.0 m.1, onward w u.read.inside r, parsed_place d m.1, parsed_place e g);
      }

-- ---- the loop

-- a form of one or more f, and the bytes of its values
pub record Writing {A : Type 0} (f : Form A) (F : Form (List ℕ)) : Type 0 where
  pub full : not (nullable f) ≡ true
  pub bytes : List A → List ℕ
  pub one : A → List ℕ
  pub none : bytes [] ≡ []
  pub snoc : (vs : List A) (v : A) → bytes (vs ++ (v ∷ [])) ≡ bytes vs ++ one v
  pub read : (s : List ℕ) (at : ℕ) (vs : List A) (d : Cursor) → Reads (some f) s (Parsed at) vs d → Reads F s (Parsed at) (bytes vs) d

-- what is still to come, and what is stored
pub record Writes {A : Type 0} {f : Form A} {F : Form (List ℕ)} (W : Writing f F) (s : List ℕ) (at : ℕ) (room : PatternBytes) (here : ℕ)
    (to : PatternBytes) : Type 0 where
  pub values : List A
  pub turns : Some f W.full s at values here
  pub kept : to ≡ appended room (W.bytes values)
  pub grown : at + length (W.bytes values) ≤ here

module _ {A : Type 0} {f : Form A} {F : Form (List ℕ)} (W : Writing f F) (s : List ℕ) (at : ℕ) (room : PatternBytes) (ready : Ready s (Parsed at) room) where
  module _ {here : ℕ} {to : PatternBytes} (u : Writes W s at room here to) where
    pub writes_ready : Ready s (Parsed here) to
    writes_ready =
        let e : to.used ≡ room.used + length (W.bytes u.values) = ap (λ (r : PatternBytes). r.used) u.kept in
        record {
          inside = u.turns.inside;
          short = ready.short;
          after = omega (arith, e, u.grown, ready.after);
          full = appended_same room (W.bytes u.values) u.kept ∙ ready.full;
        }

    module _ (v : A) {n : ℕ} {to' : PatternBytes} (r : Reads f s (Parsed here) v (Parsed n)) (e : to' ≡ appended to (W.one v))
        (g : here + length (W.one v) ≤ n) where
      all_kept_lem : to' ≡ appended room (W.bytes (u.values ++ (v ∷ [])))
      all_kept_lem =
          e ∙ ap (λ (x : PatternBytes). appended x (W.one v)) u.kept ∙ appended_twice room (W.bytes u.values) (W.one v)
          ∙ ap (appended room) (sym (W.snoc u.values v))

      all_grown : at + length (W.bytes (u.values ++ (v ∷ []))) ≤ n
      all_grown = rw (W.snoc u.values v) (omega (arith, g, u.grown, length-append (W.bytes u.values) (W.one v)))

      pub writes-on : begins (first_set f) (drop n s) ≡ true → Writes W s at room n to'
      writes-on t = record { values = u.values ++ (v ∷ []); turns = some_on f W.full s u.turns r t; kept = all_kept_lem; grown = all_grown }

      pub writes-last : begins (first_set f) (drop n s) ≡ false → Stores F s (Parsed at) room to' (Parsed n)
      writes-last t = (
        W.bytes (u.values ++ (v ∷ [])),
        record {
          read = W.read s at (u.values ++ (v ∷ [])) (Parsed n) (some_last f W.full s u.turns r t);
          kept = all_kept_lem;
          grown = λ m q. let z : n ≡ m = cc in omega (arith, all_grown, z);
        },
      )

    pub writes_stop : (v : A) {p : ℕ} (b : List ℕ) {to' : PatternBytes} → Reads f s (Parsed here) v (Failed p) → to' ≡ appended to b
        → Stores F s (Parsed at) room to' (Failed p)
    writes_stop v {p} b r e = (
      W.bytes u.values ++ b,
      record {
        read = failed_any (W.read s at (u.values ++ (v ∷ [])) (Failed p) (some_stop f W.full s u.turns r [])) (W.bytes u.values ++ b);
        kept = e ∙ ap (λ (x : PatternBytes). appended x b) u.kept ∙ appended_twice room (W.bytes u.values) b;
        grown = λ m q. never (cc);
      },
    )
