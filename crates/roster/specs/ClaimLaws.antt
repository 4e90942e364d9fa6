-- A claim comes to its end.
use Rattle.std.specs.Prelude.{◌≡◌, ℕ, ◌<◌, ◌+◌, true, false, not, nat_eq, nat_lt, Option, Some, None}
use Rattle.std.proofs.Common.{refl, sym, ap, ◌∙◌, arith}
use Rattle.std.proofs.lemmas.Bool.{cond_both}
use Rattle.w32_base.specs.declared.call.Reply.{Reply}
use Rattle.w32_base.specs.declared.call.Reply.TheVariants as reply
use Rattle.w32_base.specs.declared.setup.Setup.{Setup}
use Rattle.w32_base.specs.Part.{may_keep_rank}
use Rattle.layer_spec.specs.Transitions.{Hold}
use Rattle.roster.specs.declared.claim.Claim.{Claim}
use Rattle.roster.specs.declared.claim.Claim.TheVariants as claim
use Rattle.roster.specs.Turns.{quietly, Lowers, all_by_word}
use Rattle.roster.specs.Words.{changed_word}
use Rattle.roster.specs.Claim.{claim_posted, claim_counted, claim_held, claim_looked, claim_tried, claim_after}
use Rattle.roster.specs.Claim.{claim_rank}

held_small : (row old : ℕ) (o : Option ℕ) → claim_rank (claim_held row old o) < 3
held_small row old (Some new) = omega arith
held_small row old None = omega arith

-- each turn lowers the rank, unless the compare-exchange found another word
pub claim_lowers : (setup : Setup) (p : Claim) (r : Reply)
    → Lowers claim_rank claim_posted p r (quietly (claim_after setup p r))
claim_lowers setup claim.Adding r =
    all_by_word (λ x r. may_keep_rank (claim_posted claim.Adding) r None ≡ false → claim_rank x < 4) claim.Rest
    (claim_counted setup.limits.rows) (λ r _. omega arith)
    (λ w _. cond_both (nat_lt w setup.limits.rows) (claim.Looking (w + 1)) claim.NoRow (λ x. claim_rank x < 4)
    (λ e. omega arith) (λ e. omega arith)) r
claim_lowers setup (claim.Looking row) r =
    all_by_word (λ x r. may_keep_rank (claim_posted (claim.Looking row)) r None ≡ false → claim_rank x < 3) claim.Rest
    (claim_looked row) (λ r _. omega arith) (λ w _. held_small row w (changed_word Hold w)) r
claim_lowers setup (claim.Holding row old new) r =
    all_by_word (λ x r. may_keep_rank (claim_posted (claim.Holding row old new)) r None ≡ false → claim_rank x < 2)
    claim.Rest (claim_tried row old) (λ r _. omega arith)
    (λ w. cond_both (nat_eq w old) (claim.Claimed row) (claim_looked row w)
    (λ x. may_keep_rank (claim_posted (claim.Holding row old new)) (reply.Word w) None ≡ false → claim_rank x < 2)
    (λ e _. omega arith)
    (λ e keeps. absurd (let never : true ≡ false = ap not (sym e) ∙ keeps in cc))) r
claim_lowers setup (claim.Claimed row) r = λ keeps. absurd (let never : true ≡ false = keeps in cc)
claim_lowers setup claim.NoRow r = λ keeps. absurd (let never : true ≡ false = keeps in cc)
claim_lowers setup claim.Rest r = λ keeps. absurd (let never : true ≡ false = keeps in cc)

-- what a claim knows where it tries: the new word is that of the row held
abbrev pub ClaimKnows : Claim → Type 0
ClaimKnows (claim.Holding row old new) = changed_word Hold old ≡ Some new
ClaimKnows claim.Adding = Unit {0}
ClaimKnows (claim.Looking row) = Unit {0}
ClaimKnows (claim.Claimed row) = Unit {0}
ClaimKnows claim.NoRow = Unit {0}
ClaimKnows claim.Rest = Unit {0}

looked_knows : (row old : ℕ) (o : Option ℕ) → changed_word Hold old ≡ o → ClaimKnows (claim_held row old o)
looked_knows row old (Some new) e = e
looked_knows row old None e = tt

pub claim-knows : (setup : Setup) (p : Claim) (r : Reply) → ClaimKnows p → ClaimKnows (claim_after setup p r)
claim-knows setup claim.Adding r k =
    all_by_word (λ x r. ClaimKnows x) claim.Rest (claim_counted setup.limits.rows) (λ r. tt)
    (λ w. cond_both (nat_lt w setup.limits.rows) (claim.Looking (w + 1)) claim.NoRow ClaimKnows (λ _. tt) (λ _. tt)) r
claim-knows setup (claim.Looking row) r k =
    all_by_word (λ x r. ClaimKnows x) claim.Rest (claim_looked row) (λ r. tt)
    (λ w. looked_knows row w (changed_word Hold w) refl) r
claim-knows setup (claim.Holding row old new) r k =
    all_by_word (λ x r. ClaimKnows x) claim.Rest (claim_tried row old) (λ r. tt)
    (λ w. cond_both (nat_eq w old) (claim.Claimed row) (claim_looked row w) ClaimKnows (λ _. tt)
    (λ _. looked_knows row w (changed_word Hold w) refl)) r
claim-knows setup (claim.Claimed row) r k = tt
claim-knows setup claim.NoRow r k = tt
claim-knows setup claim.Rest r k = tt
