-- What the values of the options' forms are bounded by: numbers by their limits, addresses by four bytes, pattern bytes by 255, and a pattern has no
-- more bytes than its text. Each by `Every`, from the bytes' classes and the bounds.
use mathlib.Core.Path.{◌≡◌, refl}
use mathlib.Core.Bool.{Bool, true, false, ◌&&◌}
use mathlib.Core.List.{List, [], ◌∷◌, ◌++◌}
use Prim.Native.Nat.{ℕ, suc, ◌+◌, ◌*◌, ◌≤◌}
use native.Mathlib.Omega.{arith}
use lib.ListN.{length, length-append}
use lib.Dec.{leb}
use lib.IntN.{nat_abs}
use borrow.Author.Tests.{le-leb, leb-true}
use Rattle.forms.specs.Form.{has, Form, byte, fmap, Row, none, Means}
use Rattle.forms.specs.Pieces.{preceded, terminated, or, literal, keyword}
use Rattle.forms.proofs.Bools.{by_cases}
use Rattle.definitions.specs.declared.table.Address.{Address}
use Rattle.definitions.specs.Lists.{all?}
use Rattle.definitions.specs.Numbers.{hex_digits, digit_value, value_of, number, numeral}
use Rattle.definitions.specs.Forms.{spaces, address, addresses, hex_pair, block, plain_bytes, concatenated, pattern_bytes, signed}
use Rattle.definitions.specs.WellFormed.{address_fits}
use Rattle.roundtrip.proofs.AllTests.{both, all_none, all_more, all_append, all_row}
use Rattle.roundtrip.proofs.Classes.{class_inside}
use Rattle.roundtrip.proofs.EveryValue.{Every, every, known}
use Rattle.roundtrip.proofs.Fits.{is_byte}

-- ---- words and numbers

pub keyword_every : {A : Type 0} (w : List ℕ) (a : A) (P : List ℕ → A → Type 0) → ((x : List ℕ) → P x a) → Every (keyword w a) P
keyword_every [] a P k = k []
keyword_every (b ∷ w) a P k = λ c h. keyword_every w a (λ y v. P ((c ∷ []) ++ y) v) (λ y. k ((c ∷ []) ++ y))

pub number_within_lem : (limit : ℕ) (x : List ℕ) (n : ℕ) → Means true (number limit) x n → leb n limit ≡ true
number_within_lem limit = every (number limit) (λ x n. leb n limit ≡ true) (λ b h x vs r t. t)

pub numeral_within : (limit : ℕ) (x : List ℕ) (n : ℕ) → Means true (numeral limit) x n → leb n limit ≡ true
numeral_within limit =
    every (numeral limit) (λ x n. leb n limit ≡ true) ((λ b h. (λ c g d e x vs r t. t, λ x vs r t. t)), λ b h x vs r t. t)

abbrev digits : ℕ → List ℕ → ℕ
digits b vs = value_of 10 0 (b ∷ vs)

pub signed_abs : (minus : Bool) (n : ℕ) → nat_abs (signed minus n) ≡ n
signed_abs true ℕ.zero = refl
signed_abs true (suc n) = refl
signed_abs false n = refl

-- ---- addresses

four_bytes : (a b c d : ℕ) → leb a 255 ≡ true → leb b 255 ≡ true → leb c 255 ≡ true → leb d 255 ≡ true
    → leb (((a * 256 + b) * 256 + c) * 256 + d) 4294967295 ≡ true
four_bytes a b c d p q r s =
    le-leb (((a * 256 + b) * 256 + c) * 256 + d) 4294967295 (omega (arith, leb-true a 255 p, leb-true b 255 q, leb-true c 255 r, leb-true d 255 s))

address_fits_lem : (x : List ℕ) (a : Address) → Means true address x a → address_fits a ≡ true
address_fits_lem =
    every address (λ x a. address_fits a ≡ true)
    (λ b h x vs r t c g b2 h2 x2 vs2 r2 t2 c2 g2 b3 h3 x3 vs3 r3 t3 c3 g3 b4 h4 x4 vs4 r4 t4.
    let m = four_bytes (digits b vs) (digits b2 vs2) (digits b3 vs3) (digits b4 vs4) t t2 t3 t4 in
    ((λ s k b5 h5 x5 vs5 r5 t5. both m t5), both m refl))

pub not_none : (n : ℕ) → leb 1 (suc n) ≡ true
not_none n = le-leb 1 (suc n) (omega arith)

-- one address or more
abbrev some_fit : List Address → Bool
some_fit al = leb 1 (length al) && all? address_fits al

some_fit_lem : (x y : List ℕ) (a : Address) (al : List Address) → Means true address y a → Row (λ y w. Means true (preceded (literal 44) address) y w) x al
    → some_fit (a ∷ al) ≡ true
some_fit_lem x y a al m r =
    both (not_none (length al)) (all_more address_fits a al (address_fits_lem y a m)
    (all_row address_fits (λ y w. Means true (preceded (literal 44) address) y w)
    (every (preceded (literal 44) address) (λ x a. address_fits a ≡ true) (λ b h. known address (λ x a. address_fits a ≡ true) address_fits_lem)) r))

pub addresses_fit_lem : (x : List ℕ) (al : List Address) → Means true addresses x al → some_fit al ≡ true
addresses_fit_lem =
    every addresses (λ x al. some_fit al ≡ true) (
      (λ b h. known address (λ y a. (z : List ℕ) (al : List Address) → Row (λ y w. Means true (preceded (literal 44) address) y w) z al → (c : ℕ)
          → has ((93, 93) ∷ []) c ≡ true → some_fit (a ∷ al) ≡ true)
          (λ y a m z al r c g. some_fit_lem z y a al m r)),
      known address (λ y a. some_fit (a ∷ []) ≡ true) (λ y a m. some_fit_lem [] y a [] m none),
    )

-- ---- patterns

-- a pair of digits, with any spaces after it; a byte that stands for itself, or a block
abbrev pub spaced_pair : Form ℕ
spaced_pair = terminated hex_pair spaces

abbrev pub part : Form (List ℕ)
part = or (fmap (λ (b : ℕ). b ∷ []) (byte plain_bytes)) block

pub digit_small : (b : ℕ) → has hex_digits b ≡ true → digit_value b ≤ 15
unfolding digit_value
digit_small b h =
    let i = class_inside 48 102 hex_digits refl b h in
    by_cases (leb b 57)
    (λ t. rw t (omega (arith, leb-true b 57 t)))
    (λ t. by_cases (leb b 70) (λ u. rw (t, u) (omega (arith, leb-true b 70 u))) (λ u. rw (t, u) (omega (arith, i.below))))

-- bytes, no more of them than the text has
pub record Short (x bs : List ℕ) : Type 0 where
  pub bytes : all? is_byte bs ≡ true
  pub short : length bs ≤ length x

pair_fits : (x : List ℕ) (b : ℕ) → Means true spaced_pair x b → (is_byte b ≡ true) × (1 ≤ length x)
pair_fits =
    every spaced_pair (λ x b. (is_byte b ≡ true) × (1 ≤ length x))
    (λ a h b g x vs r. (le-leb (digit_value a * 16 + digit_value b) 255 (omega (arith, digit_small a h, digit_small b g)), omega arith))

pairs_fit : (x bs : List ℕ) → Row (λ y w. Means true spaced_pair y w) x bs → Short x bs
pairs_fit x bs none = record { bytes = all_none is_byte; short = omega arith }
pairs_fit x bs (Row.more {x = y} {y = z} {v} {vs} p r) =
    let i = pairs_fit z vs r in
    let j = pair_fits y v p in
    record { bytes = all_more is_byte v vs j.0 i.bytes; short = omega (arith, length-append y z, i.short, j.1) }

abbrev NotNone : List ℕ → Type 0
NotNone bs = leb 1 (length bs) ≡ true

block_fits : (x bs : List ℕ) → Means true block x bs → NotNone bs × Short x bs
block_fits =
    every block (λ x bs. NotNone bs × Short x bs)
    (λ b h x vs r. known spaced_pair (λ y v. (z ws : List ℕ) → Row (λ y w. Means true spaced_pair y w) z ws → (c : ℕ) → has ((124, 124) ∷ []) c ≡ true
    → NotNone (v ∷ ws) × Short ((b ∷ []) ++ (x ++ ((y ++ z) ++ (c ∷ [])))) (v ∷ ws))
    (λ y v m z ws r c g.
    let i = pair_fits y v m in
    let j = pairs_fit z ws r in
    (not_none (length ws), record { bytes = all_more is_byte v ws i.0 j.bytes; short = simp length-append (omega (arith, j.short)) })))

part_fits : (x bs : List ℕ) → Means true part x bs → NotNone bs × Short x bs
part_fits =
    every part (λ x bs. NotNone bs × Short x bs) (
      (λ b h.
          let i = class_inside 32 126 plain_bytes refl b h in
          (not_none 0, record { bytes = all_more is_byte b [] (le-leb b 255 (omega (arith, i.below))) (all_none is_byte); short = omega arith })),
      known block (λ x bs. NotNone bs × Short x bs) block_fits,
    )

parts_fit : (x : List ℕ) (vs : List (List ℕ)) → Row (λ y w. Means true part y w) x vs → Short x (concatenated vs)
parts_fit x vs none = record { bytes = all_none is_byte; short = omega arith }
parts_fit x vs (Row.more {x = y} {y = z} {v} {vs = ws} p r) =
    let i = parts_fit z ws r in
    let j = part_fits y v p in
    record {
      bytes = all_append is_byte v (concatenated ws) j.1.bytes i.bytes;
      short =
          omega (arith, length-append y z, length-append v (concatenated ws), i.short, j.1.short);
    }

pub pattern_fits : (x bs : List ℕ) → Means true pattern_bytes x bs → NotNone bs × Short x bs
pattern_fits =
    every pattern_bytes (λ x bs. NotNone bs × Short x bs)
    (known part (λ y v. (z : List ℕ) (ws : List (List ℕ)) → Row (λ y w. Means true part y w) z ws
    → NotNone (v ++ concatenated ws) × Short (y ++ z) (v ++ concatenated ws))
    (λ y v m z ws r.
    let i = part_fits y v m in
    let k = parts_fit (y ++ z) (v ∷ ws) (Row.more m r) in
    (le-leb 1 (length (v ++ concatenated ws)) (omega (arith, length-append v (concatenated ws), leb-true 1 (length v) i.0)), k)))
