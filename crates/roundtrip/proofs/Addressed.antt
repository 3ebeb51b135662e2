-- An address list as it is written is of the form of addresses: an address is its four bytes, put together again, and its prefix; one stands alone and
-- several in brackets.
use mathlib.Core.Path.{◌≡◌, sym, ap, ◌∙◌}
use mathlib.Core.Bool.{true, not}
use mathlib.Core.List.{List, [], ◌∷◌, ◌++◌, append_assoc, append-nil}
use Prim.Native.Nat.{ℕ, suc, ◌+◌, ◌*◌, ◌/◌, ◌%◌, ◌≤◌}
use native.Mathlib.Omega.{arith}
use native.Mathlib.Nat.{div-div-eq-div-mul}
use lib.ListN.{length}
use lib.Dec.{eqb, leb}
use borrow.Author.Tests.{le-leb, leb-true, eqb-true, lt-ltb}
use Rattle.forms.specs.Bytes.{text}
use Rattle.forms.specs.Form.{Row, none}
use Rattle.forms.specs.Pieces.{preceded, opt, literal}
use Rattle.forms.proofs.Bools.{by_cases}
use Rattle.definitions.specs.declared.table.Address.{Address}
use Rattle.definitions.specs.Limits.{max_byte, max_long, max_prefix}
use Rattle.definitions.specs.Lists.{all?}
use Rattle.definitions.specs.Numbers.{number}
use Rattle.definitions.specs.Forms.{dotted, octet, address, addresses}
use Rattle.definitions.specs.Canonical.{decimal, text_if, address_text, addresses_text, bracketed}
use Rattle.definitions.specs.WellFormed.{address_fits}
use Rattle.roundtrip.proofs.AllTests.{halves, all_head, all_tail}
use Rattle.roundtrip.proofs.Decimals.{number_of}
use Rattle.roundtrip.proofs.Making.{Of, retexts, revalues, pure_of, fmap_of, preceded_of, terminated_of, both_of}
use Rattle.roundtrip.proofs.Making.{alt_left, alt_right, many_of, literal_of}

-- ---- an address

octet_of : (n : ℕ) → n ≤ 255 → Of octet (decimal n) n
octet_of n h = number_of max_byte n (le-leb n max_byte h)

dotted_of : (n : ℕ) → n ≤ 255 → Of dotted (decimal n ++ (46 ∷ [])) n
dotted_of n h = terminated_of (octet_of n h) (literal_of 46)

-- a prefix of 32 is left out
prefix_of : (p : ℕ) → leb p max_prefix ≡ true
    → Of (opt max_prefix (preceded (literal 47) (number max_prefix))) (text_if (not (eqb p max_prefix)) (text "/" ++ decimal p)) p
prefix_of p t =
    by_cases (eqb p max_prefix)
    (λ u. rw u (alt_right (revalues (sym (eqb-true p max_prefix u)) pure_of)))
    (λ u. rw u (alt_left (preceded_of (literal_of 47) (number_of max_prefix p t))))

byte_back : (n : ℕ) → n / 256 * 256 + n % 256 ≡ n
byte_back n = omega arith

top_byte : (n : ℕ) → n ≤ 4294967295 → n / 16777216 % 256 ≡ n / 16777216
top_byte n h = let g : n / 16777216 ≤ 255 = omega (arith, h) in omega (arith, g)

four_back : (n : ℕ) → n ≤ 4294967295 → ((n / 16777216 % 256 * 256 + n / 65536 % 256) * 256 + n / 256 % 256) * 256 + n % 256 ≡ n
four_back n h =
    let e : n / 65536 ≡ n / 256 / 256 = sym (div-div-eq-div-mul n 256 256) in
    let g : n / 16777216 ≡ n / 256 / 256 / 256 = sym (ap (λ i. i / 256) (div-div-eq-div-mul n 256 256) ∙ div-div-eq-div-mul n 65536 256) in
    rw (top_byte n h, g, e, byte_back (n / 256 / 256), byte_back (n / 256), byte_back n)

address_of : (a : Address) → address_fits a ≡ true → Of address (address_text a) a
address_of a t =
    let h = halves t in
    let n = a.number in
    let e = four_back n (leb-true n max_long h.0) in
    revalues (ap (λ i. record { number = i; prefix = a.prefix }) e)
    (retexts (simp append_assoc)
    (fmap_of (both_of (dotted_of (n / 16777216 % 256) (omega arith))
    (both_of (dotted_of (n / 65536 % 256) (omega arith))
    (both_of (dotted_of (n / 256 % 256) (omega arith)) (both_of (octet_of (n % 256) (omega arith)) (prefix_of a.prefix h.1)))))))

-- ---- a list of them

tail_text : List Address → List ℕ
tail_text [] = []
tail_text (a ∷ al) = (44 ∷ address_text a) ++ tail_text al

first_and_tail : (a : Address) (al : List Address) → addresses_text (a ∷ al) ≡ address_text a ++ tail_text al
unfolding addresses_text tail_text
first_and_tail a [] = sym (append-nil (address_text a))
first_and_tail a (b ∷ al) = ap (λ l. address_text a ++ (44 ∷ l)) (first_and_tail b al)

tail_of : (al : List Address) → all? address_fits al ≡ true → Row (λ y w. Of (preceded (literal 44) address) y w) (tail_text al) al
unfolding tail_text
tail_of [] t = none
tail_of (a ∷ al) t = Row.more (preceded_of (literal_of 44) (address_of a (all_head address_fits a al t))) (tail_of al (all_tail address_fits a al t))

pub addresses_of : (al : List Address) → 1 ≤ length al → all? address_fits al ≡ true → Of addresses (bracketed al) al
addresses_of [] h t = absurd (omega (arith, h))
addresses_of (a ∷ []) h t = unfold addresses_text in alt_right (fmap_of {h = λ (a : Address). a ∷ []} (address_of a (all_head address_fits a [] t)))
addresses_of (a ∷ (b ∷ al)) h t =
    rw (lt-ltb 1 (suc (suc (length al))) (omega arith), first_and_tail a (b ∷ al))
    (alt_left (preceded_of (literal_of 91)
    (terminated_of (fmap_of {h = λ (p : Address × List Address). p.0 ∷ p.1}
    (both_of (address_of a (all_head address_fits a (b ∷ al) t)) (many_of (tail_of (b ∷ al) (all_tail address_fits a (b ∷ al) t))))) (literal_of 93))))
