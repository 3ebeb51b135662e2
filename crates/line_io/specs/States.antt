-- What a run leaves of the state that its feeds keep.
use Rattle.std.specs.Prelude.{◌≡◌, ℕ, List}
use Rattle.std.specs.Borrow.{Bor, MutBor}
use Rattle.std.specs.Fn.{Shared}
use Rattle.line_stream.specs.declared.Begun.{Begun}
use Rattle.line_stream.specs.declared.Fed.{Fed}

-- a feed takes bytes, a state, an output and the line begun
module _ {F S : Type 0}
    (g : Shared F (Bor (List ℕ) × (MutBor S × (MutBor (List ℕ) × (Begun × Unit {0})))) (Fed × (MutBor S × (MutBor (List ℕ) × Unit {0}))))
    (f : F) where
  -- called at some bytes and some output, at the line begun and the state s, it may answer a and leave the state s'
  pub record FedOnce (b : Begun) (s : S) (a : Fed) (s' : S) : Type 0 where
    pub bytes : Bor (List ℕ)
    pub shown : MutBor S
    pub shows : shown.now ≡ s
    pub output : MutBor (List ℕ)
    pub left : MutBor S
    pub written : MutBor (List ℕ)
    pub met : g.post f (bytes, (shown, (output, (b, tt)))) (a, (left, (written, tt)))
    pub leaves : left.now ≡ s'

  -- calls one after another, each at the line begun and the state that the one before left, lead from the first of these to the last
  pub data FedOn : Begun → S → Begun → S → Type 0 where
    none : {b : Begun} {s : S} → FedOn b s b s
    more : {b b' : Begun} {s s' t : S} {a : Fed} → FedOn b s b' s' → FedOnce b' s' a t → FedOn b s a.begun t
