-- A pattern's options make the pattern again: each modifier that is not the default is set by its option, and those of the next pattern are not reached.
use Rattle.std.specs.Prelude.{Some, None, Option}
use mathlib.Core.Path.{◌≡◌, refl, ap, ◌∙◌}
use mathlib.Core.Bool.{Bool, true, false}
use mathlib.Core.List.{List, [], ◌∷◌, ◌++◌, append_assoc}
use Prim.Native.Nat.{ℕ}
use Rattle.definitions.specs.declared.table.Context as contexts
use Rattle.definitions.specs.declared.table.Context.TheVariants as context
use Rattle.definitions.specs.declared.table.DistanceValue.{DistanceValue}
use Rattle.definitions.specs.declared.table.WithinValue.{WithinValue}
use Rattle.definitions.specs.declared.table.Pattern as patterns
use Rattle.definitions.specs.OptionValues.{Context, NoCase, Distance, Within, OptionValue, Name, Protocol, Flow, Test, Pattern, Modified}
use Rattle.definitions.specs.Tables.{flow_in, bare, modified, slots_in, bytes_in}
use Rattle.definitions.specs.Lists.{all?}
use Rattle.definitions.specs.Canonical.{context_option, no_case_option, distance_option, within_option}
use Rattle.forms.proofs.Sound.{never}
use Rattle.roundtrip.proofs.AllTests.{all_none, all_more, all_head, all_tail, all_append}

-- the modifiers of a pattern, in canonical order
abbrev pub modifier_options : patterns.Pattern → List OptionValue
modifier_options p = context_option p.context ++ (no_case_option p.nocase ++ (distance_option p.distance ++ within_option p.within))

abbrev pat : Bool → ℕ → contexts.Context → Bool → Option DistanceValue → Option WithinValue → patterns.Pattern
pat g n c k d w = record { negated = g; len = n; context = c; nocase = k; distance = d; within = w }

module _ (es : List OptionValue) (g : Bool) (n : ℕ) where
  context_set : (c : contexts.Context)
      → modified (context_option c ++ es) (pat g n context.Packet false None None) ≡ modified es (pat g n c false None None)
  unfolding modified
  context_set context.Packet = refl
  context_set context.Uri = refl
  context_set context.Header = refl
  context_set context.Body = refl
  context_set context.Banner = refl
  context_set context.Host = refl
  context_set context.File = refl

  module _ (c : contexts.Context) where
    no_case_set : (k : Bool)
        → modified (no_case_option k ++ es) (pat g n c false None None) ≡ modified es (pat g n c k None None)
    unfolding modified
    no_case_set true = refl
    no_case_set false = refl

    distance_set : (k : Bool) (d : Option DistanceValue)
        → modified (distance_option d ++ es) (pat g n c k None None) ≡ modified es (pat g n c k d None)
    unfolding modified
    distance_set k None = refl
    distance_set k (Some d) = refl

    within_set : (k : Bool) (d : Option DistanceValue) (w : Option WithinValue)
        → modified (within_option w ++ es) (pat g n c k d None) ≡ modified es (pat g n c k d w)
    unfolding modified
    within_set k d None = refl
    within_set k d (Some w) = refl

pub modifiers_joined : (p : patterns.Pattern) (es : List OptionValue)
    → modifier_options p ++ es ≡ context_option p.context ++ (no_case_option p.nocase ++ (distance_option p.distance ++ (within_option p.within ++ es)))
modifiers_joined p es = simp append_assoc

pub pattern_set : (p : patterns.Pattern) (es : List OptionValue) → modified (modifier_options p ++ es) (bare p.negated p.len) ≡ modified es p
pattern_set p es =
    let w = within_option p.within ++ es in
    let d = distance_option p.distance ++ w in
    let k = no_case_option p.nocase ++ d in
    ap (λ l. modified l (bare p.negated p.len)) (modifiers_joined p es)
    ∙ context_set k p.negated p.len p.context
    ∙ no_case_set d p.negated p.len p.context p.nocase
    ∙ distance_set w p.negated p.len p.context p.nocase p.distance
    ∙ within_set es p.negated p.len p.context p.nocase p.distance p.within

-- ---- modifiers are neither slots nor bytes

abbrev pub modifies : OptionValue → Bool
modifies (Name n) = false
modifies (Protocol p) = false
modifies (Flow f) = false
modifies (Test it al) = false
modifies (Pattern n b) = false
modifies (Modified m) = true

-- a test holds for a pattern's modifiers if it holds for each that is given
module _ (f : OptionValue → Bool) where
  context_all : (c : contexts.Context) → f (Modified (Context c)) ≡ true → all? f (context_option c) ≡ true
  context_all context.Packet t = all_none f
  context_all context.Uri t = all_more f (Modified (Context context.Uri)) [] t (all_none f)
  context_all context.Header t = all_more f (Modified (Context context.Header)) [] t (all_none f)
  context_all context.Body t = all_more f (Modified (Context context.Body)) [] t (all_none f)
  context_all context.Banner t = all_more f (Modified (Context context.Banner)) [] t (all_none f)
  context_all context.Host t = all_more f (Modified (Context context.Host)) [] t (all_none f)
  context_all context.File t = all_more f (Modified (Context context.File)) [] t (all_none f)

  no_case_all : (k : Bool) → f (Modified NoCase) ≡ true → all? f (no_case_option k) ≡ true
  no_case_all true t = all_more f (Modified NoCase) [] t (all_none f)
  no_case_all false t = all_none f

  distance_all : (d : Option DistanceValue) → ((s : DistanceValue) → d ≡ Some s → f (Modified (Distance s)) ≡ true) → all? f (distance_option d) ≡ true
  distance_all None t = all_none f
  distance_all (Some s) t = all_more f (Modified (Distance s)) [] (t s refl) (all_none f)

  within_all : (w : Option WithinValue) → ((r : WithinValue) → w ≡ Some r → f (Modified (Within r)) ≡ true) → all? f (within_option w) ≡ true
  within_all None t = all_none f
  within_all (Some r) t = all_more f (Modified (Within r)) [] (t r refl) (all_none f)

  pub modifiers_all : (p : patterns.Pattern) → f (Modified (Context p.context)) ≡ true → f (Modified NoCase) ≡ true
      → ((s : DistanceValue) → p.distance ≡ Some s → f (Modified (Distance s)) ≡ true)
      → ((r : WithinValue) → p.within ≡ Some r → f (Modified (Within r)) ≡ true) → all? f (modifier_options p) ≡ true
  modifiers_all p c k d w =
      all_append f (context_option p.context) (no_case_option p.nocase ++ (distance_option p.distance ++ within_option p.within))
      (context_all p.context c)
      (all_append f (no_case_option p.nocase) (distance_option p.distance ++ within_option p.within) (no_case_all p.nocase k)
      (all_append f (distance_option p.distance) (within_option p.within) (distance_all p.distance d) (within_all p.within w)))

modifiers_modify : (p : patterns.Pattern) → all? modifies (modifier_options p) ≡ true
modifiers_modify p = modifiers_all modifies p refl refl (λ s e. refl) (λ r e. refl)

slots_after : (ms es : List OptionValue) → all? modifies ms ≡ true
    → (slots_in (ms ++ es) ≡ slots_in es) × (bytes_in (ms ++ es) ≡ bytes_in es) × (flow_in (ms ++ es) ≡ flow_in es)
unfolding slots_in bytes_in flow_in
slots_after [] es t = (refl, refl, refl)
slots_after (Name n ∷ ms) es t = let z = all_head modifies (Name n) ms t in never (cc)
slots_after (Protocol p ∷ ms) es t = let z = all_head modifies (Protocol p) ms t in never (cc)
slots_after (Flow f ∷ ms) es t = let z = all_head modifies (Flow f) ms t in never (cc)
slots_after (Test it al ∷ ms) es t = let z = all_head modifies (Test it al) ms t in never (cc)
slots_after (Pattern n b ∷ ms) es t = let z = all_head modifies (Pattern n b) ms t in never (cc)
slots_after (Modified m ∷ ms) es t = slots_after ms es (all_tail modifies (Modified m) ms t)

module _ (p : patterns.Pattern) (es : List OptionValue) where
  pub slots_past : slots_in (modifier_options p ++ es) ≡ slots_in es
  slots_past = (slots_after (modifier_options p) es (modifiers_modify p)).0

  pub bytes_past : bytes_in (modifier_options p ++ es) ≡ bytes_in es
  bytes_past = (slots_after (modifier_options p) es (modifiers_modify p)).1

  pub flow_past : flow_in (modifier_options p ++ es) ≡ flow_in es
  flow_past = (slots_after (modifier_options p) es (modifiers_modify p)).2
