-- The number of positive patterns is that of the slots that hold one: pattern bytes play no part.
use Rattle.std.specs.Prelude.{cond, count_by}
use Rattle.std.proofs.lemmas.List.Recursion.{is_count_by}
use mathlib.Core.Path.{◌≡◌, refl, ap, ◌∙◌}
use mathlib.Core.List.{List, [], ◌∷◌}
use Prim.Native.Nat.{ℕ, ◌+◌}
use native.Mathlib.Omega.{arith}
use Rattle.forms.proofs.Bools.{by_cases}
use Rattle.definitions.specs.declared.table.Item.{Item}
use Rattle.definitions.specs.declared.table.Address.{Address}
use Rattle.definitions.specs.declared.table.Slot.{Slot}
use Rattle.definitions.specs.Items.{Kind, unused, addressed, patterned, plain_test, kind_of, after_item}
use Rattle.definitions.specs.Placements.{constraint_by, constraints, positive_in, positives}
use Rattle.match_answers.specs.PositivePatterns.{positive_kind, is_positive}

any_bytes : (k : Kind) (it : Item) (al : List Address) (b : List ℕ) → positive_in (constraint_by k it al b) ≡ positive_in (constraint_by k it al [])
any_bytes unused it al b = refl
any_bytes (addressed a) it al b = refl
any_bytes (patterned p) it al b = by_cases p.negated (λ t. rw t) (λ f. rw f)
any_bytes plain_test it al b = refl

-- the positive patterns of some slots, with no pattern bytes
abbrev pub positives_of : List Slot → ℕ
positives_of sls = positives (constraints sls [])

pub bytes_aside : (sls : List Slot) (b : List ℕ) → positives (constraints sls b) ≡ positives_of sls
unfolding positives constraints
bytes_aside [] b = refl
bytes_aside (sl ∷ sls) b =
    let k = kind_of sl.item in
    omega (arith, any_bytes k sl.item sl.addresses b, bytes_aside sls (after_item k b), bytes_aside sls (after_item k []))

-- what one item adds
one : (k : Kind) (it : Item) (al : List Address) (n : ℕ) → positive_in (constraint_by k it al []) + n ≡ cond (positive_kind k) (1 + n) n
one unused it al n = omega arith
one (addressed a) it al n = omega arith
one (patterned p) it al n = by_cases p.negated (λ t. rw t (omega arith)) (λ f. rw f refl)
one plain_test it al n = omega arith

none_positive : positives_of [] ≡ 0
unfolding positives constraints
none_positive = refl

one_more : (sl : Slot) (sls : List Slot) → positives_of (sl ∷ sls) ≡ cond (is_positive sl) (1 + positives_of sls) (positives_of sls)
unfolding positives constraints
one_more sl sls =
    let k = kind_of sl.item in
    ap (λ (n : ℕ). positive_in (constraint_by k sl.item sl.addresses []) + n) (bytes_aside sls (after_item k [])) ∙ one k sl.item sl.addresses (positives_of sls)

pub positives_counted : (sls : List Slot) (b : List ℕ) → positives (constraints sls b) ≡ count_by is_positive sls
positives_counted sls b = bytes_aside sls b ∙ is_count_by positives_of is_positive none_positive one_more sls
