-- A turn of a part that leaves its process's bytes alone: which part it is then, and the event that stands in the turn.
use Rattle.std.specs.Prelude.{◌≡◌, ℕ, ◌<◌, false, [], Option, None}
use Rattle.std.proofs.Common.{refl, sym, ap, ◌∙◌, subst}
use Rattle.w32_base.specs.declared.call.Call.{Call}
use Rattle.w32_base.specs.declared.call.Call.TheVariants as call
use Rattle.w32_base.specs.declared.call.Reply.{Reply}
use Rattle.w32_base.specs.declared.call.Reply.TheVariants as reply
use Rattle.w32_base.specs.declared.event.Event.{Event}
use Rattle.w32_base.specs.declared.own.Own.{Own}
use Rattle.w32_base.specs.declared.part.After.{After}
use Rattle.w32_base.specs.Part.{may_keep_rank, KeepsLengths}

pub record Turn (P : Type 0) : Type 0 where
  pub part : P
  pub event : Option Event

-- a turn without an event
abbrev pub quietly : {P : Type 0} → P → Turn P
quietly p = record { part = p; event = None }

-- the part went by this turn, and the own bytes stay
pub record Went {P : Type 0} (turn : Turn P) (old : Own) (next : P) (new : Own) (answer : After) : Type 0 where
  pub part : next ≡ turn.part
  pub own : new ≡ old
  pub event : answer.event ≡ turn.event

-- the handles of a layer process that a part names: the section, the roster mutex, the event that wakes the own main
-- thread, and the write end of the wake pipe
abbrev pub section_handle : ℕ
section_handle = 1

abbrev pub roster_handle : ℕ
roster_handle = 2

abbrev pub wake_handle : ℕ
wake_handle = 4

abbrev pub pipe_handle : ℕ
pipe_handle = 7

-- the call of a part that has nothing to do: it is never ready
abbrev pub rest_call : Call
rest_call = call.WaitAny []

-- what comes of a word that was found; of every other reply, which a call on a word of the section never has, the rest
abbrev pub by_word : {P : Type 0} → P → (ℕ → P) → Reply → P
by_word rest f (reply.Word w) = f w
by_word rest f _ = rest

-- the same where `done` is the one reply that comes
abbrev pub by_done : {P : Type 0} → P → P → Reply → P
by_done rest next reply.Done = next
by_done rest next _ = rest

-- what holds of all that may come of a reply holds of what comes of it
pub all_by_word : {P : Type 0} (Q : P → Reply → Type 0) (rest : P) (f : ℕ → P) → ((r : Reply) → Q rest r)
    → ((w : ℕ) → Q (f w) (reply.Word w)) → (r : Reply) → Q (by_word rest f r) r
all_by_word Q rest f at_rest at_word (reply.Word w) = at_word w
all_by_word Q rest f at_rest at_word r = at_rest r

pub all_by_done : {P : Type 0} (Q : P → Type 0) (rest next : P) → Q rest → Q next → (r : Reply)
    → Q (by_done rest next r)
all_by_done Q rest next at_rest at_next reply.Done = at_next
all_by_done Q rest next at_rest at_next r = at_rest

-- A table of turns lowers the rank: so does a part that goes by it.
abbrev pub Lowers : {P : Type 0} → (P → ℕ) → (P → Call) → P → Reply → Turn P → Type 0
Lowers rank posted p r turn = may_keep_rank (posted p) r turn.event ≡ false → rank turn.part < rank p

pub went_lowers : {P : Type 0} (rank : P → ℕ) (posted : P → Call) (p q : P) (o n : Own) (r : Reply) (a : After)
    (turn : Turn P) → Lowers rank posted p r turn → Went turn o q n a
    → may_keep_rank (posted p) r a.event ≡ false → rank q < rank p
went_lowers rank posted p q o n r a turn lowers went keeps =
    subst (λ x. rank x < rank p) (sym went.part)
    (lowers (ap (λ e. may_keep_rank (posted p) r e) (sym went.event) ∙ keeps))

-- and the own bytes keep their lengths
pub went_keeps : {P : Type 0} (turn : Turn P) (o : Own) (q : P) (n : Own) (a : After) → Went turn o q n a
    → KeepsLengths o n
went_keeps turn o q n a went =
    subst (λ x. KeepsLengths o x) (sym went.own)
    (record { dat = refl; heap = refl; stack = refl; cyg = refl; scratch = refl })
