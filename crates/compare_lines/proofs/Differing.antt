-- Words parted by commas: a comma stands before a word if one stands before that. Each of eight ways.
use mathlib.Core.Path.{◌≡◌, refl}
use mathlib.Core.Bool.{Bool, true, false, ◌&&◌, ◌||◌}
use mathlib.Core.List.{[], ◌++◌}
use Prim.Native.Nat.{ℕ}
use Rattle.forms.specs.Bytes.{text}
use Rattle.forms.proofs.Sound.{never}
use Rattle.definitions.specs.Canonical.{decimal, text_if}
use Rattle.compare_laws.specs.Comparisons.{differing, commas, changed_line}

pub words_parted : (s a t : Bool) → commas (differing s a t)
    ≡ text_if s (text "state") ++ (text_if (s && a) (text ",") ++ (text_if a (text "action") ++ (text_if ((s || a) && t) (text ",") ++ text_if t (text "text"))))
words_parted true true true = refl
words_parted true true false = refl
words_parted true false true = refl
words_parted true false false = refl
words_parted false true true = refl
words_parted false true false = refl
words_parted false false true = refl
words_parted false false false = refl

-- no line where nothing differs
pub nothing_changed : (n : ℕ) (s a t : Bool) → ((s || a) || t) ≡ false → changed_line n (differing s a t) ≡ []
nothing_changed n true a t e = never (cc)
nothing_changed n false true t e = never (cc)
nothing_changed n false false true e = never (cc)
nothing_changed n false false false e = refl

pub something_changed : (n : ℕ) (s a t : Bool) → ((s || a) || t) ≡ true
    → changed_line n (differing s a t) ≡ text "changed\t" ++ (decimal n ++ (text "\t" ++ (commas (differing s a t) ++ text "\n")))
something_changed n true a t e = refl
something_changed n false true t e = refl
something_changed n false false true e = refl
something_changed n false false false e = never (cc)
