-- The slots of options that fit, fit: a test's numbers and addresses are its option's, a pattern's modifiers are those after it, and its length is its
-- bytes'. By induction on the options.
use mathlib.Core.Path.{◌≡◌, refl, ap, ◌∙◌}
use mathlib.Core.Bool.{Bool, true, false, ◌&&◌}
use mathlib.Core.List.{List, [], ◌∷◌}
use Prim.Native.Nat.{◌-◌, ◌≤◌}
use native.Mathlib.Omega.{arith}
use lib.ListN.{length, length-append, replicate}
use lib.Seq.{take-append_seam, drop-append_seam}
use lib.Dec.{eqb, leb}
use borrow.Author.Tests.{eqb-true, lt-ltb, leb-true}
use Rattle.forms.proofs.Bools.{both_left, both_right}
use Rattle.forms.proofs.Sound.{never}
use Rattle.definitions.specs.declared.table.Item.{Item}
use Rattle.definitions.specs.declared.table.Item.TheVariants as item
use Rattle.definitions.specs.declared.table.Address.{Address}
use Rattle.definitions.specs.declared.table.Pattern as patterns
use Rattle.definitions.specs.Limits.{max_addresses}
use Rattle.definitions.specs.Lists.{all?, none?, padded}
use Rattle.definitions.specs.OptionValues.{Modifier, Context, NoCase, Distance, Within, OptionValue, Name, Protocol, Flow, Test, Pattern, Modified}
use Rattle.definitions.specs.Tables.{bare, with, modified, no_address, slot_of, slots_in, bytes_in}
use Rattle.definitions.specs.Items.{kind_of, patterns_of}
use Rattle.definitions.specs.WellFormed.{address_fits, address_unused, distance_fits, within_fits, item_fits, addresses_fit, slot_fits, bytes_of}
use Rattle.syntax.proofs.UsablePatterns.{test_only, skipped}
use Rattle.roundtrip.proofs.AllTests.{both, all_none, all_more, all_head, all_tail, all_append, all_replicate}
use Rattle.roundtrip.proofs.Counts.{few_addresses}
use Rattle.roundtrip.proofs.Fits.{test_fits, is_byte, modifier_fits, option_fits}

-- ---- tests

-- so many addresses, and zeros after them
padded_fit : (al : List Address) → all? address_fits al ≡ true → addresses_fit (length al) (padded max_addresses no_address al) ≡ true
padded_fit al f =
    let z = replicate (max_addresses - length al) no_address in
    rw (take-append_seam al z, drop-append_seam al z) (both f (all_replicate address_unused (max_addresses - length al) no_address refl))

plain_slot : (it : Item) (al : List Address) → (item_fits it && none? al) ≡ true → (item_fits it && addresses_fit 0 (padded max_addresses no_address al)) ≡ true
unfolding all?
plain_slot it [] t = t
plain_slot it (a ∷ al) t = let z = both_right (item_fits it) false t in never (cc)

test_slot : (it : Item) (al : List Address) → test_fits (kind_of it) it al ≡ true → leb (length al) max_addresses ≡ true → slot_fits (slot_of it al) ≡ true
unfolding item_fits
test_slot item.Unused al t f = never (cc)
test_slot (item.Address a) al t f =
    let e = eqb-true a.count (length al) (both_left (eqb a.count (length al)) (leb 1 (length al) && all? address_fits al) t) in
    let g = both_right (eqb a.count (length al)) (leb 1 (length al) && all? address_fits al) t in
    rw e (both (both (both_left (leb 1 (length al)) (all? address_fits al) g) f) (padded_fit al (both_right (leb 1 (length al)) (all? address_fits al) g)))
test_slot item.SameIp al t f = plain_slot item.SameIp al t
test_slot (item.Number a) al t f = plain_slot (item.Number a) al t
test_slot (item.Ttl a) al t f = plain_slot (item.Ttl a) al t
test_slot (item.Field a) al t f = plain_slot (item.Field a) al t
test_slot (item.Size a) al t f = plain_slot (item.Size a) al t
test_slot (item.At a) al t f = plain_slot (item.At a) al t
test_slot (item.Byte a) al t f = plain_slot (item.Byte a) al t
test_slot (item.Pattern p) al t f = never (cc)

-- ---- patterns

-- the numbers of a pattern's modifiers are within their limits
abbrev range_fits : patterns.Pattern → Bool
range_fits p = distance_fits p.distance && within_fits p.within

with_fits : (m : Modifier) (p : patterns.Pattern) → modifier_fits m ≡ true → range_fits p ≡ true → range_fits (with m p) ≡ true
with_fits (Context c) p t f = f
with_fits NoCase p t f = f
with_fits (Distance d) p t f = both t (both_right (distance_fits p.distance) (within_fits p.within) f)
with_fits (Within w) p t f = both (both_left (distance_fits p.distance) (within_fits p.within) f) t

modified_fits : (es : List OptionValue) (p : patterns.Pattern) → all? option_fits es ≡ true → range_fits p ≡ true → range_fits (modified es p) ≡ true
unfolding modified
modified_fits [] p t f = f
modified_fits (Name n ∷ es) p t f = modified_fits es p (all_tail option_fits (Name n) es t) f
modified_fits (Protocol q ∷ es) p t f = modified_fits es p (all_tail option_fits (Protocol q) es t) f
modified_fits (Flow g ∷ es) p t f = modified_fits es p (all_tail option_fits (Flow g) es t) f
modified_fits (Test it al ∷ es) p t f = modified_fits es p (all_tail option_fits (Test it al) es t) f
modified_fits (Pattern n b ∷ es) p t f = f
modified_fits (Modified m ∷ es) p t f =
    modified_fits es (with m p) (all_tail option_fits (Modified m) es t) (with_fits m p (all_head option_fits (Modified m) es t) f)

with_length : (m : Modifier) (p : patterns.Pattern) → (with m p).len ≡ p.len
with_length (Context c) p = refl
with_length NoCase p = refl
with_length (Distance d) p = refl
with_length (Within w) p = refl

pub modified_length : (es : List OptionValue) (p : patterns.Pattern) → (modified es p).len ≡ p.len
unfolding modified
modified_length [] p = refl
modified_length (Name n ∷ es) p = modified_length es p
modified_length (Protocol q ∷ es) p = modified_length es p
modified_length (Flow g ∷ es) p = modified_length es p
modified_length (Test it al ∷ es) p = modified_length es p
modified_length (Pattern n b ∷ es) p = refl
modified_length (Modified m ∷ es) p = modified_length es (with m p) ∙ with_length m p

pattern_slot : (p : patterns.Pattern) → 1 ≤ p.len → range_fits p ≡ true → slot_fits (slot_of (item.Pattern p) []) ≡ true
unfolding item_fits all?
pattern_slot p h f = both (both (lt-ltb 0 p.len (omega (arith, h))) f) refl

-- ---- all slots

pub slots_fit_lem : (es : List OptionValue) → all? option_fits es ≡ true → all? few_addresses es ≡ true → all? slot_fits (slots_in es) ≡ true
unfolding slots_in
slots_fit_lem [] t f = all_none slot_fits
slots_fit_lem (Name n ∷ es) t f = slots_fit_lem es (all_tail option_fits (Name n) es t) (all_tail few_addresses (Name n) es f)
slots_fit_lem (Protocol p ∷ es) t f = slots_fit_lem es (all_tail option_fits (Protocol p) es t) (all_tail few_addresses (Protocol p) es f)
slots_fit_lem (Flow g ∷ es) t f = slots_fit_lem es (all_tail option_fits (Flow g) es t) (all_tail few_addresses (Flow g) es f)
slots_fit_lem (Test it al ∷ es) t f =
    all_more slot_fits (slot_of it al) (slots_in es) (test_slot it al (all_head option_fits (Test it al) es t) (all_head few_addresses (Test it al) es f))
    (slots_fit_lem es (all_tail option_fits (Test it al) es t) (all_tail few_addresses (Test it al) es f))
slots_fit_lem (Pattern n b ∷ es) t f =
    let p = modified es (bare n (length b)) in
    let i = all_head option_fits (Pattern n b) es t in
    let g = all_tail option_fits (Pattern n b) es t in
    let l = leb-true 1 (length b) (both_left (leb 1 (length b)) (all? is_byte b) i) in
    let e : p.len ≡ length b = modified_length es (bare n (length b)) in
    all_more slot_fits (slot_of (item.Pattern p) []) (slots_in es) (pattern_slot p (omega (arith, e, l)) (modified_fits es (bare n (length b)) g refl))
    (slots_fit_lem es g (all_tail few_addresses (Pattern n b) es f))
slots_fit_lem (Modified m ∷ es) t f = slots_fit_lem es (all_tail option_fits (Modified m) es t) (all_tail few_addresses (Modified m) es f)

-- ---- pattern bytes

pub bytes_fit_lem : (es : List OptionValue) → all? option_fits es ≡ true → all? is_byte (bytes_in es) ≡ true
unfolding bytes_in
bytes_fit_lem [] t = all_none is_byte
bytes_fit_lem (Name n ∷ es) t = bytes_fit_lem es (all_tail option_fits (Name n) es t)
bytes_fit_lem (Protocol p ∷ es) t = bytes_fit_lem es (all_tail option_fits (Protocol p) es t)
bytes_fit_lem (Flow g ∷ es) t = bytes_fit_lem es (all_tail option_fits (Flow g) es t)
bytes_fit_lem (Test it al ∷ es) t = bytes_fit_lem es (all_tail option_fits (Test it al) es t)
bytes_fit_lem (Pattern n b ∷ es) t =
    all_append is_byte b (bytes_in es) (both_right (leb 1 (length b)) (all? is_byte b) (all_head option_fits (Pattern n b) es t))
    (bytes_fit_lem es (all_tail option_fits (Pattern n b) es t))
bytes_fit_lem (Modified m ∷ es) t = bytes_fit_lem es (all_tail option_fits (Modified m) es t)

-- the patterns' lengths are those of their bytes
pub lengths_in : (es : List OptionValue) → all? test_only es ≡ true → bytes_of (patterns_of (slots_in es)) ≡ length (bytes_in es)
unfolding slots_in patterns_of bytes_of bytes_in
lengths_in [] t = refl
lengths_in (Name n ∷ es) t = lengths_in es (all_tail test_only (Name n) es t)
lengths_in (Protocol p ∷ es) t = lengths_in es (all_tail test_only (Protocol p) es t)
lengths_in (Flow g ∷ es) t = lengths_in es (all_tail test_only (Flow g) es t)
lengths_in (Test it al ∷ es) t =
    ap bytes_of (skipped (kind_of it) (patterns_of (slots_in es)) (all_head test_only (Test it al) es t)) ∙ lengths_in es (all_tail test_only (Test it al) es t)
lengths_in (Pattern n b ∷ es) t =
    let e : (modified es (bare n (length b))).len ≡ length b = modified_length es (bare n (length b)) in
    omega (arith, e, lengths_in es (all_tail test_only (Pattern n b) es t), length-append b (bytes_in es))
lengths_in (Modified m ∷ es) t = lengths_in es (all_tail test_only (Modified m) es t)
