-- What comes of the replies for which the start of an image waits.
use Rattle.std.proofs.Common.{◌≡◌, ℕ, refl}
use Rattle.w32_base.specs.declared.call.Reply.{Reply}
use Rattle.w32_base.specs.declared.call.Reply.TheVariants as answer
use Rattle.layer_actor.specs.declared.start.StartStep.{StartStep}
use Rattle.layer_actor.specs.declared.start.StartStep.TheVariants as start
use Rattle.layer_actor.specs.Start.{by_handle, by_two, by_count}

-- what holds of a rest, and of what comes of the replies that are waited for, holds of what comes of each reply
module _ (Q : StartStep → Type 0) (at_rest : Q start.Rest) where
  pub on_handle : (f : ℕ → StartStep) (r : Reply) → ((h : ℕ) → r ≡ answer.Handle h → Q (f h))
      → Q (by_handle start.Rest f r)
  on_handle f (answer.Handle h) each = each h refl
  on_handle f r each = at_rest

  pub on_two : (next : StartStep) (r : Reply) → ((a b : ℕ) → r ≡ answer.Two a b → Q next) → Q (by_two start.Rest next r)
  on_two next (answer.Two a b) each = each a b refl
  on_two next r each = at_rest

  pub on_count : (next : StartStep) (r : Reply) → Q next → Q (by_count start.Rest next r)
  on_count next (answer.Count n) at_next = at_next
  on_count next r at_next = at_rest
