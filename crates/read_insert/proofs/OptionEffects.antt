-- What one option more, or some more, do to what the definitions take from the options: by cases on the options before.
use mathlib.Core.Path.{◌≡◌, refl, sym, ap, ◌∙◌}
use mathlib.Core.Bool.{Bool, true, false, ◌||◌, true≢false}
use mathlib.Core.List.{List, [], ◌∷◌, ◌++◌, append_assoc}
use Prim.Native.Nat.{ℕ, ◌+◌}
use native.Mathlib.Omega.{arith}
use lib.ListN.{length, length-append}
use Rattle.definitions.specs.declared.table.Flow.TheVariants.{Any}
use Rattle.definitions.specs.declared.table.Pattern as patterns
use Rattle.definitions.specs.declared.table.Slot.{Slot}
use Rattle.forms.proofs.Bools.{or-false}
use Rattle.definitions.specs.Lists.{any?, keep, keep_one, count}
use Rattle.definitions.specs.OptionValues.{Modifier, OptionValue, Name, Protocol, Flow, Test, Pattern, Modified}
use Rattle.definitions.specs.Tables.{name_in, protocol_in, flow_in, bytes_in, slots_in, slot_of, modified, bare, with}
use Rattle.definitions.specs.Occurrences.{same_kind, is_test, is_pattern, latest}
use Rattle.read_state.specs.State.{last_place}

-- ---- tests over lists

pub or_true : (a : Bool) → (a || true) ≡ true
or_true true = refl
or_true false = refl

module _ {A : Type 0} (f : A → Bool) where
  or_assoc : (a b c : Bool) → (a || (b || c)) ≡ ((a || b) || c)
  or_assoc true b c = refl
  or_assoc false b c = refl

  pub any_append : (a b : List A) → any? f (a ++ b) ≡ (any? f a || any? f b)
  unfolding any?
  any_append [] b = refl
  any_append (x ∷ a) b = rw (any_append a b) (or_assoc (f x) (any? f a) (any? f b))

  keep_one_lem : (t : Bool) (x : A) (l m : List A) → keep_one t x (l ++ m) ≡ keep_one t x l ++ m
  keep_one_lem true x l m = refl
  keep_one_lem false x l m = refl

  pub keep_append : (a b : List A) → keep f (a ++ b) ≡ keep f a ++ keep f b
  unfolding keep
  keep_append [] b = refl
  keep_append (x ∷ a) b = rw (keep_append a b) (keep_one_lem (f x) x (keep f a) (keep f b))

  pub count_append : (a b : List A) → count f (a ++ b) ≡ count f a + count f b
  count_append a b = ap length (keep_append a b) ∙ length-append (keep f a) (keep f b)

-- ---- name, protocol and flow: the first counts

pub name_after : (es t : List OptionValue) → name_in t ≡ [] → name_in (es ++ t) ≡ name_in es
unfolding name_in
name_after [] t h = h
name_after (Name n ∷ es) t h = refl
name_after (Protocol p ∷ es) t h = name_after es t h
name_after (Flow f ∷ es) t h = name_after es t h
name_after (Test it al ∷ es) t h = name_after es t h
name_after (Pattern n b ∷ es) t h = name_after es t h
name_after (Modified m ∷ es) t h = name_after es t h

pub name_first : (es t : List OptionValue) → any? (same_kind (Name [])) es ≡ false → name_in (es ++ t) ≡ name_in t
unfolding name_in any?
name_first [] t h = refl
name_first (Name n ∷ es) t h = absurd (true≢false h)
name_first (Protocol p ∷ es) t h = name_first es t h
name_first (Flow f ∷ es) t h = name_first es t h
name_first (Test it al ∷ es) t h = name_first es t h
name_first (Pattern n b ∷ es) t h = name_first es t h
name_first (Modified m ∷ es) t h = name_first es t h

pub protocol_after : (es t : List OptionValue) → protocol_in t ≡ 0 → protocol_in (es ++ t) ≡ protocol_in es
unfolding protocol_in
protocol_after [] t h = h
protocol_after (Name n ∷ es) t h = protocol_after es t h
protocol_after (Protocol p ∷ es) t h = refl
protocol_after (Flow f ∷ es) t h = protocol_after es t h
protocol_after (Test it al ∷ es) t h = protocol_after es t h
protocol_after (Pattern n b ∷ es) t h = protocol_after es t h
protocol_after (Modified m ∷ es) t h = protocol_after es t h

pub protocol_first : (es t : List OptionValue) → any? (same_kind (Protocol 0)) es ≡ false → protocol_in (es ++ t) ≡ protocol_in t
unfolding protocol_in any?
protocol_first [] t h = refl
protocol_first (Name n ∷ es) t h = protocol_first es t h
protocol_first (Protocol p ∷ es) t h = absurd (true≢false h)
protocol_first (Flow f ∷ es) t h = protocol_first es t h
protocol_first (Test it al ∷ es) t h = protocol_first es t h
protocol_first (Pattern n b ∷ es) t h = protocol_first es t h
protocol_first (Modified m ∷ es) t h = protocol_first es t h

pub flow_after : (es t : List OptionValue) → flow_in t ≡ Any → flow_in (es ++ t) ≡ flow_in es
unfolding flow_in
flow_after [] t h = h
flow_after (Name n ∷ es) t h = flow_after es t h
flow_after (Protocol p ∷ es) t h = flow_after es t h
flow_after (Flow f ∷ es) t h = refl
flow_after (Test it al ∷ es) t h = flow_after es t h
flow_after (Pattern n b ∷ es) t h = flow_after es t h
flow_after (Modified m ∷ es) t h = flow_after es t h

pub flow_first : (es t : List OptionValue) → any? (same_kind (Flow Any)) es ≡ false → flow_in (es ++ t) ≡ flow_in t
unfolding flow_in any?
flow_first [] t h = refl
flow_first (Name n ∷ es) t h = flow_first es t h
flow_first (Protocol p ∷ es) t h = flow_first es t h
flow_first (Flow f ∷ es) t h = absurd (true≢false h)
flow_first (Test it al ∷ es) t h = flow_first es t h
flow_first (Pattern n b ∷ es) t h = flow_first es t h
flow_first (Modified m ∷ es) t h = flow_first es t h

-- ---- pattern bytes and items: one after the other

pub bytes_append : (es t : List OptionValue) → bytes_in (es ++ t) ≡ bytes_in es ++ bytes_in t
unfolding bytes_in
bytes_append [] t = refl
bytes_append (Name n ∷ es) t = bytes_append es t
bytes_append (Protocol p ∷ es) t = bytes_append es t
bytes_append (Flow f ∷ es) t = bytes_append es t
bytes_append (Test it al ∷ es) t = bytes_append es t
bytes_append (Pattern n b ∷ es) t = rw (bytes_append es t) (sym (append_assoc b (bytes_in es) (bytes_in t)))
bytes_append (Modified m ∷ es) t = bytes_append es t

-- after options that change no pattern before them
pub modified_after : (es t : List OptionValue) → ((p : patterns.Pattern) → modified t p ≡ p) → (p : patterns.Pattern) → modified (es ++ t) p ≡ modified es p
unfolding modified
modified_after [] t h p = h p
modified_after (Name n ∷ es) t h p = modified_after es t h p
modified_after (Protocol q ∷ es) t h p = modified_after es t h p
modified_after (Flow f ∷ es) t h p = modified_after es t h p
modified_after (Test it al ∷ es) t h p = modified_after es t h p
modified_after (Pattern n b ∷ es) t h p = refl
modified_after (Modified m ∷ es) t h p = modified_after es t h (with m p)

pub slots_append : (es t : List OptionValue) → ((p : patterns.Pattern) → modified t p ≡ p) → slots_in (es ++ t) ≡ slots_in es ++ slots_in t
unfolding slots_in
slots_append [] t h = refl
slots_append (Name n ∷ es) t h = slots_append es t h
slots_append (Protocol p ∷ es) t h = slots_append es t h
slots_append (Flow f ∷ es) t h = slots_append es t h
slots_append (Test it al ∷ es) t h = ap (λ (l : List Slot). slot_of it al ∷ l) (slots_append es t h)
slots_append (Pattern n b ∷ es) t h = rw (modified_after es t h (bare n (length b)), slots_append es t h)
slots_append (Modified m ∷ es) t h = slots_append es t h

pub slots_length : (es : List OptionValue) → length (slots_in es) ≡ count is_pattern es + count is_test es
unfolding slots_in keep
slots_length [] = refl
slots_length (Name n ∷ es) = slots_length es
slots_length (Protocol p ∷ es) = slots_length es
slots_length (Flow f ∷ es) = slots_length es
slots_length (Test it al ∷ es) = omega (arith, slots_length es)
slots_length (Pattern n b ∷ es) = omega (arith, slots_length es)
slots_length (Modified m ∷ es) = slots_length es

-- ---- the modifiers after the last pattern, and its place

pub latest_append : (ms : List Modifier) (es t : List OptionValue) → latest ms (es ++ t) ≡ latest (latest ms es) t
unfolding latest
latest_append ms [] t = refl
latest_append ms (Name n ∷ es) t = latest_append ms es t
latest_append ms (Protocol p ∷ es) t = latest_append ms es t
latest_append ms (Flow f ∷ es) t = latest_append ms es t
latest_append ms (Test it al ∷ es) t = latest_append ms es t
latest_append ms (Pattern n b ∷ es) t = latest_append [] es t
latest_append ms (Modified m ∷ es) t = latest_append (m ∷ ms) es t

pub last_after_all_lem : (es t : List OptionValue) → any? is_pattern t ≡ false → last_place t ≡ 0 → last_place (es ++ t) ≡ last_place es
unfolding last_place
last_after_all_lem [] t h z = z
last_after_all_lem (Name n ∷ es) t h z = last_after_all_lem es t h z
last_after_all_lem (Protocol p ∷ es) t h z = last_after_all_lem es t h z
last_after_all_lem (Flow f ∷ es) t h z = last_after_all_lem es t h z
last_after_all_lem (Test it al ∷ es) t h z = rw (any_append is_pattern es t, h, or-false (any? is_pattern es), last_after_all_lem es t h z)
last_after_all_lem (Pattern n b ∷ es) t h z = rw (any_append is_pattern es t, h, or-false (any? is_pattern es), last_after_all_lem es t h z)
last_after_all_lem (Modified m ∷ es) t h z = last_after_all_lem es t h z

pub last_new : (es : List OptionValue) (neg : Bool) (b : List ℕ) → last_place (es ++ (Pattern neg b ∷ [])) ≡ length (slots_in es)
unfolding last_place slots_in any?
last_new [] neg b = refl
last_new (Name n ∷ es) neg b = last_new es neg b
last_new (Protocol p ∷ es) neg b = last_new es neg b
last_new (Flow f ∷ es) neg b = last_new es neg b
last_new (Test it al ∷ es) neg b = rw (any_append is_pattern es (Pattern neg b ∷ []), or_true (any? is_pattern es), last_new es neg b)
last_new (Pattern n c ∷ es) neg b = rw (any_append is_pattern es (Pattern neg b ∷ []), or_true (any? is_pattern es), last_new es neg b)
last_new (Modified m ∷ es) neg b = last_new es neg b

pub last_none : (es : List OptionValue) → any? is_pattern es ≡ false → last_place es ≡ 0
unfolding last_place any?
last_none [] h = refl
last_none (Name n ∷ es) h = last_none es h
last_none (Protocol p ∷ es) h = last_none es h
last_none (Flow f ∷ es) h = last_none es h
last_none (Test it al ∷ es) h = rw h
last_none (Pattern n b ∷ es) h = absurd (true≢false h)
last_none (Modified m ∷ es) h = last_none es h
