-- An option's name is the longest run of name bytes, and the table finds the one row that it names: a name in any letter case has name bytes only,
-- what an option's form begins with is none, and to another row's name it compares as the row's own name does.
use mathlib.Core.Path.{◌≡◌, refl, sym, ap, subst, ◌∙◌}
use mathlib.Core.Bool.{true, false, ◌&&◌}
use mathlib.Core.List.Memᴰ.{head as first_one}
use mathlib.Core.List.Memᴰ.{tail as later-one}
use mathlib.Core.List.{List, [], ◌∷◌, ◌++◌, Memᴰ as Mem}
use Prim.Native.Nat.{ℕ, suc, ◌+◌}
use native.Mathlib.Omega.{arith}
use lib.ListN.{length}
use lib.Dec.{eqb, leb}
use borrow.Author.Tests.{eqb-true, leb-true, le-leb, not-true}
use Rattle.forms.specs.Bytes.{between, lower, same_word, run}
use Rattle.forms.specs.Form.{Means}
use Rattle.forms.specs.Place.{Read, read_at}
use Rattle.forms.proofs.Bools.{by_cases, both_left, both_right}
use Rattle.forms.proofs.Sound.{never}
use Rattle.forms.proofs.Complete.{first_of, no_empty}
use Rattle.definitions.specs.OptionValues.{OptionValue}
use Rattle.definitions.specs.Options.{Option, option_table, in_name, listed, named_option}
use Rattle.syntax.proofs.Truths.{cases, impossible}
use Rattle.syntax.proofs.Rows.{all_rows, each_row, plain_word, plain_name, unlike, distinct, names_plain, names_distinct, form_alone_lem}

-- ---- the longest run

capital_name : (b : ℕ) → between 65 90 b ≡ true → in_name b ≡ true
unfolding in_name lower
capital_name b t =
    let h1 = leb-true 65 b (both_left (leb 65 b) (leb b 90) t) in
    let h2 = leb-true b 90 (both_right (leb 65 b) (leb b 90) t) in
    rw (t, le-leb 97 (b + 32) (omega (arith, h1)), le-leb (b + 32) 122 (omega (arith, h2)))

-- a byte whose small form is a name byte is one
name_low : (b : ℕ) → in_name (lower b) ≡ true → in_name b ≡ true
unfolding lower
name_low b e = by_cases (between 65 90 b) (λ t. capital_name b t) (λ t. rw t at e)

word_parts : (y : ℕ) (w : List ℕ) → plain_word (y ∷ w) ≡ true → (in_name y ≡ true) × (lower y ≡ y) × (plain_word w ≡ true)
unfolding plain_word
word_parts y w p =
    let q = both_left (in_name y && eqb (lower y) y) (plain_word w) p in (
      both_left (in_name y) (eqb (lower y) y) q,
      eqb-true (lower y) y (both_right (in_name y) (eqb (lower y) y) q),
      both_right (in_name y && eqb (lower y) y)
          (plain_word w) p,
    )

run_word : (n w : List ℕ) → same_word n w ≡ true → plain_word w ≡ true → (r : List ℕ) → run in_name r ≡ 0 → run in_name (n ++ r) ≡ length n
unfolding same_word run
run_word [] w e p r z = z
run_word (x ∷ n) [] e p r z = never (cc)
run_word (x ∷ n) (y ∷ w) e p r z =
    let e1 = eqb-true (lower x) y (both_left (eqb (lower x) y) (same_word n w) e) in
    let p1 = word_parts y w p in
    let q : in_name x ≡ true = name_low x (rw e1 p1.0) in
    rw q (ap suc (run_word n w (both_right (eqb (lower x) y) (same_word n w) e) p1.2 r z))

-- what is of an option's form begins with no name byte
pub no_name_front : {o : Option} → Mem o option_table → (y r : List ℕ) (e : OptionValue) → Means true o.form y e → run in_name (y ++ r) ≡ 0
unfolding run
no_name_front {o} m [] r e q = never (no_empty true o.form (form_alone_lem m).is_full e q)
no_name_front {o} m (b ∷ y) r e q = rw ((form_alone_lem m).not_of_name b (first_of true o.form b y e q))

-- a name, in any letter case, is as long as the run
pub name_run : {o : Option} → Mem o option_table → (n : List ℕ) → same_word n o.name ≡ true → (r : List ℕ) → run in_name r ≡ 0 → run in_name (n ++ r) ≡ length n
name_run {o} m n e r z = run_word n o.name e (each_row plain_name m names_plain) r z

-- ---- the row

same_as : (n w u : List ℕ) → same_word n w ≡ true → plain_word w ≡ true → same_word n u ≡ same_word w u
unfolding same_word
same_as [] [] u e p = refl
same_as [] (y ∷ w) u e p = never (cc)
same_as (x ∷ n) [] u e p = never (cc)
same_as (x ∷ n) (y ∷ w) [] e p = refl
same_as (x ∷ n) (y ∷ w) (z ∷ u) e p =
    let e1 = eqb-true (lower x) y (both_left (eqb (lower x) y) (same_word n w) e) in
    let p1 = word_parts y w p in
    rw (e1, p1.1, same_as n w u (both_right (eqb (lower x) y) (same_word n w) e) p1.2)

-- a name of a later row is not that of the first
other_name : (x : Option) (xs : List Option) (o : Option) → Mem o xs → distinct (x ∷ xs) ≡ true → all_rows plain_name (x ∷ xs) ≡ true → (n : List ℕ)
    → same_word n o.name ≡ true → same_word n x.name ≡ false
other_name x xs o m d w n q =
    same_as n o.name x.name q (each_row plain_name m (both_right (plain_name x) (all_rows plain_name xs) w))
    ∙ not-true (same_word o.name x.name) (each_row (unlike x) m (both_left (all_rows (unlike x) xs) (distinct xs) d))

apart_from : (x : Option) (xs : List Option) (o : Option) → Mem o xs → distinct (x ∷ xs) ≡ true → all_rows plain_name (x ∷ xs) ≡ true → (n : List ℕ)
    → same_word n o.name ≡ true → same_word n x.name ≡ true → ◌≡◌ {A = ℕ} 0 1
apart_from x xs o m d w n q k = let e = other_name x xs o m d w n q in let z : false ≡ true = sym e ∙ k in cc

row_found : {o : Option} {os : List Option} → Mem o os → distinct os ≡ true → all_rows plain_name os ≡ true → (n : List ℕ) → same_word n o.name ≡ true
    → (s : List ℕ) (at : ℕ) → named_option os n s at ≡ listed (read_at o.form s at)
unfolding named_option
row_found (first_one {x} {xs} e) d w n q s at =
    rw (subst (λ (z : Option). same_word n z.name ≡ true) e q) (ap (λ (z : Option). listed (read_at z.form s at)) (sym e))
row_found {o} (later-one {x} {xs} m) d w n q s at =
    rw (other_name x xs o m d w n q)
    (row_found m (both_right (all_rows (unlike x) xs) (distinct xs) d) (both_right (plain_name x) (all_rows plain_name xs) w) n q s at)

-- the table reads a listed name's option by its form
pub named_parsed : {o : Option} → Mem o option_table → (n : List ℕ) → same_word n o.name ≡ true → (s : List ℕ) (at : ℕ)
    → named_option option_table n s at ≡ listed (read_at o.form s at)
named_parsed m n q s at = row_found m names_distinct names_plain n q s at

-- a name is that of one row only
one_of : {o p : Option} {os : List Option} → Mem o os → Mem p os → distinct os ≡ true → all_rows plain_name os ≡ true → (n : List ℕ) → same_word n o.name ≡ true
    → same_word n p.name ≡ true → o ≡ p
one_of (first_one {x} {xs} e) (first_one g) d w n q k = e ∙ sym g
one_of {o} {p} (first_one {x} {xs} e) (later-one m) d w n q k =
    impossible (apart_from x xs p m d w n k (subst (λ (z : Option). same_word n z.name ≡ true) e q))
one_of {o} {p} (later-one {x} {xs} m) (first_one e) d w n q k =
    impossible (apart_from x xs o m d w n q (subst (λ (z : Option). same_word n z.name ≡ true) e k))
one_of (later-one {x} {xs} m) (later-one t) d w n q k =
    one_of m t (both_right (all_rows (unlike x) xs) (distinct xs) d) (both_right (plain_name x) (all_rows plain_name xs) w) n q k

pub one_row : {o p : Option} → Mem o option_table → Mem p option_table → (n : List ℕ) → same_word n o.name ≡ true → same_word n p.name ≡ true → o ≡ p
one_row m k n q r = one_of m k names_distinct names_plain n q r

-- what the rows read is of one of them
abbrev pub Row_of : List Option → List ℕ → List ℕ → ℕ → Read OptionValue → Type 1
Row_of os n s at r = (o : Option) × Mem o os × (same_word n o.name ≡ true) × (read_at o.form s at ≡ r)

pub row_of : (os : List Option) (n s : List ℕ) (at : ℕ) (r : Read OptionValue) → named_option os n s at ≡ listed r → Row_of os n s at r
unfolding named_option
row_of [] n s at r q = impossible (cc)
row_of (o ∷ os) n s at r q =
    cases (same_word n o.name)
    (λ t. let z : listed (read_at o.form s at) ≡ listed r = rw t at q in (o, first_one refl, t, cc))
    (λ t. let i = row_of os n s at r (rw t at q) in (i.0, later-one i.1, i.2, i.3))
