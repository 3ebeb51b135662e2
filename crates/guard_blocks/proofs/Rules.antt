-- One rule: where it never decides, no number changes (`never_kept`); where its text is read, it decides exactly the packets that its table meets (`read_decides`).
use Rattle.std.specs.Prelude.{Err}
use mathlib.Core.Path.{◌≡◌, refl, sym, ap, ◌∙◌, fun_ext}
use mathlib.Core.Bool.{Bool, true, false}
use mathlib.Core.List.{List, [], ◌∷◌}
use Prim.Native.Nat.{ℕ, ◌+◌}
use Rattle.definitions.specs.declared.answers.Refusal.{Refusal}
use Rattle.definitions.specs.declared.answers.Reading.{Reading}
use Rattle.definitions.specs.Limits.{document_limits}
use Rattle.definitions.specs.Reading.{read}
use Rattle.definitions.specs.Books.{Rule}
use Rattle.definitions.specs.Decisions.{is_on}
use Rattle.definitions.specs.Blocks.{PacketRecord, action_number}
use Rattle.guard.proofs.Rules.{off_never, unread-never, on-met}
use Rattle.guard_blocks.specs.Numbering.{meets_record, renumbered, decides_record, by_rule}
use Rattle.guard_blocks.proofs.Records.{unmet}

renumbered_none : (test : PacketRecord → Bool) (a : ℕ) → ((k : PacketRecord) → test k ≡ false) → (ks : List PacketRecord) (out : List ℕ)
    → renumbered test a ks out ≡ out
unfolding renumbered
renumbered_none test a f [] out = refl
renumbered_none test a f (k ∷ ks) [] = refl
renumbered_none test a f (k ∷ ks) (x ∷ out) = rw (unmet x (test k) (f k), renumbered_none test a f ks out)

module _ (r : Rule) (ks : List PacketRecord) (out : List ℕ) where
  pub never_kept : ((k : PacketRecord) → decides_record document_limits r k ≡ false) → out ≡ by_rule document_limits ks r out
  unfolding by_rule
  never_kept f = sym (renumbered_none (decides_record document_limits r) (action_number r.action + r.number) f ks out)

  pub off_kept : is_on r.state ≡ false → out ≡ by_rule document_limits ks r out
  unfolding decides_record
  off_kept e = never_kept (λ k. off_never k.packet k.decoded k.direction k.fields r e)

  module _ (x : Reading) (e : x ≡ read document_limits r.source) where
    pub unread_kept : (c : Refusal) (place : ℕ) → x.outcome ≡ Err (record { refusal = c; place = place }) → out ≡ by_rule document_limits ks r out
    unfolding decides_record
    unread_kept c place q = never_kept (λ k. unread-never k.packet k.decoded k.direction k.fields r x e c place q)

    pub read_decides : is_on r.state ≡ true → {a : ℕ} → a ≡ action_number r.action + r.number
        → renumbered (meets_record x.table) a ks out ≡ by_rule document_limits ks r out
    unfolding by_rule decides_record meets_record
    read_decides o q =
        ap (λ (n : ℕ). renumbered (meets_record x.table) n ks out) q
        ∙ ap (λ (test : PacketRecord → Bool). renumbered test (action_number r.action + r.number) ks out)
        (fun_ext (λ k. on-met k.packet k.decoded k.direction k.fields r x e o))
