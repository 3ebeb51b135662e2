-- Lists of addresses: an address after a comma is one turn of `many`, counted by one and kept where there is room.
use mathlib.Core.Path.{◌≡◌, refl, sym, ap, ◌∙◌}
use mathlib.Core.Bool.{Bool, true, false}
use mathlib.Core.List.{List, [], ◌∷◌, ◌++◌}
use Prim.Native.Nat.{ℕ, zero, suc, ◌+◌, ◌-◌, ◌≤◌, ◌<◌}
use native.Mathlib.Omega.{arith}
use lib.ListN.{length, take, drop, set, length-append}
use lib.Seq.{take-nil}
use Rattle.forms.specs.Form.{Class, Form, many}
use Rattle.forms.specs.Scan.{begins}
use Rattle.forms.specs.Pieces.{preceded, literal}
use Rattle.forms.proofs.Sound.{never}
use Rattle.definitions.specs.declared.table.Address.{Address}
use Rattle.definitions.specs.Limits.{max_addresses}
use Rattle.definitions.specs.Lists.{padded}
use Rattle.definitions.specs.Forms.{address, addresses}
use Rattle.definitions.specs.Tables.{no_address}
use Rattle.scan_cursors.specs.declared.Cursor.{Cursor}
use Rattle.scan_cursors.specs.declared.Cursor.TheVariants.{Parsed, OutOfRange, Failed}
use Rattle.scan_cursors.specs.Reads.{place_of, Inside, next_in, Reads}
use Rattle.scan_cursors.proofs.Readings.{fmap_reads, pair_reads, preceded_reads, terminated_reads, failed_reads}
use Rattle.scan_cursors.proofs.Choices.{first_reads, second_reads}
use Rattle.scan_cursors.proofs.Onward.{Ahead, ahead_more, left, less_left}
use Rattle.read_addresses.specs.Listing.{listed_addresses, Lists}
use Rattle.scan_cursors.proofs.Repeated.{many_out, Many, many_start, many_more, many_end}

-- ---- an array that holds the first of a list

padded_more : {A : Type 0} (n : ℕ) (x : A) (l : List A) (a : A) → set (padded n x (take n l)) (length l) a ≡ padded n x (take n (l ++ (a ∷ [])))
padded_more zero x l a = refl
padded_more (suc n) x [] a =
    let e : suc n - 0 ≡ suc n = omega arith in
    let g : suc n - suc 0 ≡ n = omega arith in
    rw (e, take-nil n, g)
padded_more {A = A} (suc n) x (y ∷ l) a =
    let e : suc n - suc (length (take n l)) ≡ n - length (take n l) = omega arith in
    let g : suc n - suc (length (take n (l ++ (a ∷ [])))) ≡ n - length (take n (l ++ (a ∷ []))) = omega arith in
    rw (e, g) (ap (λ (m : List A). y ∷ m) (padded_more n x l a))

-- ---- a cursor that goes on with a byte

next_begins : (k : Class) (s : List ℕ) (c : Cursor) → next_in k s c ≡ true → begins k (drop (place_of c) s) ≡ true
next_begins k s (Parsed n) t = t
next_begins k s (OutOfRange p n) t = t
next_begins k s (Failed p) t = never (cc)

ahead_less : (i k : ℕ) (d : Cursor) → i ≤ k → Ahead k d → Ahead i d
ahead_less i k (Parsed n) h a = omega (arith, a)
ahead_less i k (OutOfRange p n) h a = omega (arith, a)
ahead_less i k (Failed p) h a = a

ahead_place : (k : Class) (s : List ℕ) (i : ℕ) (c : Cursor) → next_in k s c ≡ true → Ahead i c → i ≤ place_of c
ahead_place k s i (Parsed n) t a = a
ahead_place k s i (OutOfRange p n) t a = a
ahead_place k s i (Failed p) t a = never (cc)

-- ---- the loop

abbrev comma : Class
comma = (44, 44) ∷ []

abbrev next : Form Address
next = preceded (literal 44) address

-- after a first address, which ended at b and alone made the row: what is still to come, what is kept and what is counted
pub record Gathered (s : List ℕ) (b : Cursor) (row list : List Address) (count : ℕ) (c : Cursor) : Type 0 where
  pub values : List Address
  pub turns : Many (preceded (literal 44) address) refl s b values c
  pub kept : (a : Address) → row ≡ padded max_addresses no_address (a ∷ []) → list ≡ padded max_addresses no_address (take max_addresses (a ∷ values))
  pub counted : count ≡ suc (length values)
  pub fits : Ahead count c

pub gathered_one : {s : List ℕ} {c b : Cursor} {v : Address} (row : List Address) → Inside s c → Reads address s c v b → Gathered s b row row 1 b
gathered_one {s} {c} {b} row h r =
    record {
      values = [];
      turns = many_start next refl s b r.inside;
      kept = λ a e. e;
      counted = refl;
      fits = ahead_less 1 (place_of c + 1) b (omega arith) (ahead_more h r refl);
    }

module _ (s : List ℕ) {b : Cursor} {row list : List Address} {count : ℕ} {c : Cursor} (u : Gathered s b row list count c) {t : Bool}
    (e : t ≡ next_in ((44, 44) ∷ []) s c) where
  pub gathered_out : {c0 : Cursor} {a : Address} → Inside s c0 → Reads address s c0 a b → row ≡ padded max_addresses no_address (a ∷ []) → t ≡ false
      → Lists listed_addresses s c0 list count c
  gathered_out {c0} {a} h r k y = (
    a ∷ u.values,
    record {
      read =
          fmap_reads (λ (p : Address × List Address). p.0 ∷ p.1)
          (pair_reads h r (many_end next refl s u.turns (out c (sym e ∙ y) u.turns.inside)));
      kept = u.kept a k;
      counted = u.counted;
    },
  )
    where
      out : (d : Cursor) → next_in comma s d ≡ false → Inside s d → Reads (many next) s d [] d
      out (Parsed n) z i = many_out next refl s (Parsed n) i z
      out (OutOfRange p n) z i = many_out next refl s (OutOfRange p n) i z
      out (Failed p) z i = failed_reads (many next) s p [] i

  module _ (y : t ≡ true) where
    stood : next_in comma s c ≡ true
    stood = sym e ∙ y

    module _ {d f : Cursor} {v : Address} (q : Reads (literal 44) s c 44 d) (r : Reads address s d v f) where
      next_read : Reads next s c v f
      next_read = preceded_reads u.turns.inside q r

      pub gathered-less : left s f < left s c
      gathered-less = less_left comma stood refl u.turns.inside next_read

      pub gathered-on : {list' : List Address} → list' ≡ set list count v → Gathered s b row list' (count + 1) f
      gathered-on k =
          record {
            values = u.values ++ (v ∷ []);
            turns = many_more next refl s u.turns (next_begins comma s c stood) next_read;
            kept = λ a z.
                k ∙ ap (λ (l : List Address). set l count v) (u.kept a z)
                ∙ ap (λ (m : ℕ). set (padded max_addresses no_address (take max_addresses (a ∷ u.values))) m v) u.counted
                ∙ padded_more max_addresses no_address (a ∷ u.values) v;
            counted = omega (arith, u.counted, length-append u.values (v ∷ []));
            fits =
                ahead_less (count + 1) (place_of c + 1) f (omega (arith, ahead_place comma s count c stood u.fits))
                (ahead_more u.turns.inside next_read refl);
          }

-- ---- in brackets, or one alone

module _ {s : List ℕ} {c : Cursor} {t : Bool} (h : Inside s c) where
  pub bracket_read : {list : List Address} {count x : ℕ} {b e d : Cursor} → t ≡ next_in ((91, 91) ∷ []) s c → t ≡ true → Reads (literal 91) s c 91 b
      → Lists listed_addresses s b list count e → Reads (literal 93) s e x d → Lists addresses s c list count d
  bracket_read n y q l r = (
    l.0,
    record {
      read = first_reads n y (preceded_reads h q (terminated_reads q.inside l.1.read r));
      kept = l.1.kept;
      counted = l.1.counted;
    },
  )

  pub single_read : {list : List Address} {a : Address} {d : Cursor} → t ≡ next_in ((91, 91) ∷ []) s c → t ≡ false → Reads address s c a d
      → list ≡ padded max_addresses no_address (a ∷ []) → Lists addresses s c list 1 d
  single_read {a = a} n y r e = (a ∷ [], record { read = second_reads n y (fmap_reads (λ (b : Address). b ∷ []) r); kept = e; counted = refl })
