-- A pattern as it is written is of the form of patterns, with its own bytes: bytes that stand for themselves one by one, neighbours of the others as the
-- pairs of one block. By induction on the bytes, for a text before which a block is open and for one before which none is.
use mathlib.Core.Path.{◌≡◌, refl, sym, ap, subst, ◌∙◌}
use mathlib.Core.Bool.{true, false}
use mathlib.Core.List.{List, [], ◌∷◌, ◌++◌, append_assoc}
use Prim.Native.Nat.{ℕ, ◌+◌, ◌*◌, ◌/◌, ◌%◌, ◌≤◌}
use native.Mathlib.Omega.{arith}
use lib.ListN.{length}
use lib.Dec.{ltb}
use borrow.Author.Tests.{le-leb, lt-leb, leb-true, ltb-true, ltb-false}
use Rattle.forms.specs.Form.{has, Row, none}
use Rattle.forms.proofs.Bools.{by_cases}
use Rattle.definitions.specs.Lists.{all?}
use Rattle.definitions.specs.Numbers.{hex_digits, digit_value}
use Rattle.definitions.specs.Forms.{block, plain_bytes, concatenated, pattern_bytes}
use Rattle.definitions.specs.Canonical.{hex_digit, pattern_text}
use Rattle.roundtrip.proofs.AllTests.{all_head, all_tail}
use Rattle.roundtrip.proofs.Fits.{is_byte}
use Rattle.roundtrip.proofs.Making.{Of, revalues, is_byte_lem, fmap_of, preceded_of, terminated_of, both_of, alt_left, alt_right, many_of, somes, literal_of}
use Rattle.roundtrip.proofs.Values.{spaced_pair, part}

-- ---- digits

digit_of : (d : ℕ) → d ≤ 15 → (has hex_digits (hex_digit d) ≡ true) × (digit_value (hex_digit d) ≡ d)
unfolding has digit_value
digit_of d h =
    by_cases (ltb d 10)
    (λ t. let g = ltb-true d 10 t in rw (t, le-leb 48 (48 + d) (omega arith), le-leb (48 + d) 57 (omega (arith, g))) (refl, omega arith))
    (λ t. let g = ltb-false d 10 t in
    rw (
      t,
      le-leb 48 (55 + d) (omega arith),
      lt-leb (55 + d) 57 (omega (arith, g)),
      le-leb 65 (55 + d) (omega (arith, g)),
      le-leb (55 + d) 70
          (omega (arith, h)),
    ) (refl, omega arith))

pair_of : (b : ℕ) → is_byte b ≡ true → Of spaced_pair (hex_digit (b / 16) ∷ hex_digit (b % 16) ∷ []) b
pair_of b t =
    let h = leb-true b 255 t in
    let p = digit_of (b / 16) (omega (arith, h)) in
    let q = digit_of (b % 16) (omega arith) in
    let e : digit_value (hex_digit (b / 16)) * 16 + digit_value (hex_digit (b % 16)) ≡ b = rw (p.1, q.1) (omega arith) in
    terminated_of
    (revalues e (fmap_of {h = λ (p : ℕ × ℕ). digit_value p.0 * 16 + digit_value p.1} (both_of (is_byte_lem p.0) (is_byte_lem q.0))))
    (many_of none)

-- ---- parts

-- no block is open: parts; a block is open: pairs, the bar that closes it, and parts
record Shut (x bs : List ℕ) : Type 0 where
  parts : List (List ℕ)
  row : Row (λ y w. Of part y w) x parts
  bytes : concatenated parts ≡ bs

record Begun (x bs : List ℕ) : Type 0 where
  front : List ℕ
  following : List ℕ
  pairs : List ℕ
  after : List ℕ
  split : x ≡ front ++ (124 ∷ following)
  row : Row (λ y w. Of spaced_pair y w) front pairs
  rest : Shut following after
  bytes : bs ≡ pairs ++ after

plain_one : (b : ℕ) (x l : List ℕ) → has plain_bytes b ≡ true → Shut x l → Shut (b ∷ x) (b ∷ l)
plain_one b x l p i =
    record {
      parts = (b ∷ []) ∷ i.parts;
      row = Row.more (alt_left (fmap_of {h = λ (b : ℕ). b ∷ []} (is_byte_lem p))) i.row;
      bytes = ap (λ m. b ∷ m) i.bytes;
    }

hex_more : (b : ℕ) (x l : List ℕ) → is_byte b ≡ true → Begun x l → Begun (hex_digit (b / 16) ∷ hex_digit (b % 16) ∷ x) (b ∷ l)
hex_more b x l t i =
    record {
      front = hex_digit (b / 16) ∷ hex_digit (b % 16) ∷ i.front;
      following = i.following;
      pairs = b ∷ i.pairs;
      after = i.after;
      split = ap (λ y. hex_digit (b / 16) ∷ hex_digit (b % 16) ∷ y) i.split;
      row = Row.more (pair_of b t) i.row;
      rest = i.rest;
      bytes = ap (λ m. b ∷ m) i.bytes;
    }

hex_first : (b : ℕ) (x l : List ℕ) → is_byte b ≡ true → Begun x l → Shut (124 ∷ hex_digit (b / 16) ∷ hex_digit (b % 16) ∷ x) (b ∷ l)
hex_first b x l t i =
    let j = i.rest in
    let y : List ℕ = 124 ∷ hex_digit (b / 16) ∷ hex_digit (b % 16) ∷ (i.front ++ (124 ∷ [])) in
    let m : Of block y (b ∷ i.pairs) =
    preceded_of (literal_of 124) (preceded_of (many_of none) (terminated_of (somes (pair_of b t) i.row) (literal_of 124))) in
    let e : y ++ i.following ≡ 124 ∷ hex_digit (b / 16) ∷ hex_digit (b % 16) ∷ x =
    ap (λ z. 124 ∷ hex_digit (b / 16) ∷ hex_digit (b % 16) ∷ z) (append_assoc i.front (124 ∷ []) i.following ∙ sym i.split) in
    record {
      parts = (b ∷ i.pairs) ∷ j.parts;
      row = subst (λ z. Row (λ y w. Of part y w) z ((b ∷ i.pairs) ∷ j.parts)) e (Row.more (alt_right m) j.row);
      bytes = ap (λ z. b ∷ z) (ap (λ z. i.pairs ++ z) j.bytes ∙ sym i.bytes);
    }

bar : (x l : List ℕ) → Shut x l → Begun (124 ∷ x) l
bar x l i = record { front = []; following = x; pairs = []; after = l; split = refl; row = none; rest = i; bytes = refl }

written : (bs : List ℕ) → all? is_byte bs ≡ true → Shut (pattern_text false bs) bs × Begun (pattern_text true bs) bs
unfolding pattern_text
written [] t = let n : Shut [] [] = record { parts = []; row = none; bytes = refl } in (n, bar [] [] n)
written (b ∷ bs) t =
    let i = written bs (all_tail is_byte b bs t) in
    let h = all_head is_byte b bs t in
    by_cases (has plain_bytes b)
    (λ p. let j = plain_one b (pattern_text false bs) bs p i.0 in rw p (j, bar (b ∷ pattern_text false bs) (b ∷ bs) j))
    (λ p. rw p (hex_first b (pattern_text true bs) bs h i.1, hex_more b (pattern_text true bs) bs h i.1))

-- one part or more
parted : {x : List ℕ} {vs : List (List ℕ)} → Row (λ y w. Of part y w) x vs → 1 ≤ length (concatenated vs) → Of pattern_bytes x (concatenated vs)
parted none h = absurd (omega (arith, h))
parted (Row.more m r) h = fmap_of {h = concatenated} (somes m r)

pub pattern_of_lem : (bs : List ℕ) → 1 ≤ length bs → all? is_byte bs ≡ true → Of pattern_bytes (pattern_text false bs) bs
pattern_of_lem bs h t =
    let i = (written bs t).0 in
    let e = i.bytes in
    revalues e (parted i.row (rw e h))
