-- What a turn of a run leaves: a read keeps the line begun, answers that are written take the feed's, and so feeds lead on.
use mathlib.Core.Path.{◌≡◌, refl, ap, sym, ◌∙◌, subst}
use Rattle.std.specs.Prelude.{ℕ, List, Option, Some, None}
use Rattle.std.specs.Borrow.{Bor, MutBor}
use Rattle.std.specs.Fn.{Shared}
use Rattle.line_stream.specs.declared.Begun.{Begun}
use Rattle.line_stream.specs.declared.Fed.{Fed}
use Rattle.line_io.specs.declared.Step.{Step}
use Rattle.line_io.specs.Blocks.{Fills, going, failed, filled, Writes, stopped, written}
use Rattle.line_io.specs.States.{FedOn, more}

-- the line of a step, that of s where there is none
begun_or : Step → Option Step → Begun
begun_or s None = s.begun
begun_or s (Some r) = r.begun

pub read_keeps_begun : {block block' : List ℕ} {s t : Step} {r : Option Step} → Fills block block' s r → r ≡ Some t → t.begun ≡ s.begun
unfolding begun_or
read_keeps_begun {s = s} (going h b e) f = ap (begun_or s) (sym f ∙ e)
read_keeps_begun {t = t} (failed h e) f = absurd (let h : None ≡ Some t = sym e ∙ f in cc)
read_keeps_begun {s = s} (filled n h k e) f = ap (begun_or s) (sym f ∙ e)

pub written_takes_begun : {a : Fed} {s t : Step} {r : Option Step} → Writes a s r → r ≡ Some t → t.begun ≡ a.begun
unfolding begun_or
written_takes_begun {t = t} (stopped e) f = absurd (let h : None ≡ Some t = sym e ∙ f in cc)
written_takes_begun {s = s} (written h e) f = ap (begun_or s) (sym f ∙ e)

module _ {F S : Type 0}
    {g : Shared F (Bor (List ℕ) × (MutBor S × (MutBor (List ℕ) × (Begun × Unit {0})))) (Fed × (MutBor S × (MutBor (List ℕ) × Unit {0})))}
    {f : F} where
  pub stands : {b b' c : Begun} {s s' t : S} → FedOn g f b s b' s' → c ≡ b' → t ≡ s' → FedOn g f b s c t
  stands {b = b} {b' = b'} {s = s} {t = t} x p q = subst (λ y. FedOn g f b s y t) (sym p) (subst (λ z. FedOn g f b s b' z) (sym q) x)

  -- a feed called at the line begun and the state that others led to
  pub leads :
      {b b' c : Begun} {s : S} {a : Fed} {bytes : Bor (List ℕ)} {shown left : MutBor S} {output written : MutBor (List ℕ)}
      → FedOn g f b s b' shown.now → c ≡ b' → g.post f (bytes, (shown, (output, (c, tt)))) (a, (left, (written, tt))) → FedOn g f b s a.begun left.now
  leads {bytes = i} {shown = u} {left = v} {output = o} {written = w} x p m =
      more (stands x p refl) (record { bytes = i; shown = u; shows = refl; output = o; left = v; written = w; met = m; leaves = refl })
