-- The text of options, one after the other, and of a pattern's.
use mathlib.Core.Path.{◌≡◌, refl, sym, ap, ◌∙◌}
use mathlib.Core.Bool.{Bool, true, false}
use mathlib.Core.List.{List, [], ◌∷◌, ◌++◌, append-nil, append_assoc}
use Prim.Native.Nat.{ℕ}
use lib.ListN.{take}
use Rattle.forms.specs.Bytes.{text}
use Rattle.definitions.specs.declared.table.Pattern.{Pattern}
use Rattle.definitions.specs.OptionValues as entry
use Rattle.definitions.specs.OptionValues.{OptionValue}
use Rattle.definitions.specs.Canonical.{context_option, no_case_option, distance_option, within_option, pattern_options, text_if, modifier_text, option_text}
use Rattle.definitions.specs.Canonical.{options_text}

pub options_append : (es fs : List OptionValue) → options_text (es ++ fs) ≡ options_text es ++ options_text fs
unfolding options_text
options_append [] fs = refl
options_append (e ∷ es) fs = ap (λ (x : List ℕ). option_text e ++ x) (options_append es fs) ∙ sym (append_assoc (option_text e) (options_text es) (options_text fs))

pub options_one : (e : OptionValue) → options_text (e ∷ []) ≡ option_text e
unfolding options_text
options_one e = append-nil (option_text e)

pub pattern_options_lem : (p : Pattern) (b : List ℕ) → options_text (pattern_options p b)
    ≡ option_text (entry.Pattern p.negated (take p.len b))
    ++ (options_text (context_option p.context)
    ++ (options_text (no_case_option p.nocase) ++ (options_text (distance_option p.distance) ++ options_text (within_option p.within))))
unfolding options_text
pattern_options_lem p b =
    ap (λ (x : List ℕ). option_text (entry.Pattern p.negated (take p.len b)) ++ x)
    (options_append (context_option p.context) (no_case_option p.nocase ++ (distance_option p.distance ++ within_option p.within))
    ∙ ap (λ (x : List ℕ). options_text (context_option p.context) ++ x)
    (options_append (no_case_option p.nocase) (distance_option p.distance ++ within_option p.within)
    ∙ ap (λ (x : List ℕ). options_text (no_case_option p.nocase) ++ x)
    (options_append (distance_option p.distance) (within_option p.within))))

pub no_case_text : (nocase : Bool) → options_text (no_case_option nocase) ≡ text_if nocase (text " --no_case;")
unfolding options_text option_text modifier_text
no_case_text true = refl
no_case_text false = refl
