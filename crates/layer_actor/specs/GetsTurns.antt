-- A get gives what it owes: what its looks show is what the call is to tell.
use Rattle.std.proofs.Common.{◌≡◌, ◌⊎◌, inl, inr, ℕ, ◌+◌, ◌≤◌, Bool, true, false, nat_le, if◌then◌else◌}
use Rattle.std.proofs.Common.{List, Option, Some, refl, sym, ap, ◌∙◌, subst, arith, le-leb, leb-true}
use Rattle.w32_base.specs.declared.call.Call.{Call}
use Rattle.w32_base.specs.declared.call.Reply.{Reply}
use Rattle.w32_base.specs.declared.call.Reply.TheVariants as answer
use Rattle.w32_base.specs.declared.event.Event.{Event}
use Rattle.w32_base.specs.declared.own.Own.{Own}
use Rattle.script_spec.specs.declared.script.Script.{Script}
use Rattle.script_spec.specs.Validity.{IsValid, is_within}
use Rattle.vm_spec.specs.Step.{CallInstruction}
use Rattle.win32_spec.specs.Call.{CallStep}
use Rattle.win32_spec.specs.Lookup.{memory_by}
use Rattle.win32_spec.specs.State.{Win32State}
use Rattle.posix_spec.specs.Groups.{shown_parent}
use Rattle.posix_spec.specs.Records.{is_live_at}
use Rattle.posix_spec.specs.SignalLaws.{first_of, second_of}
use Rattle.posix_spec.specs.State.{Record, PosixState, record_of}
use Rattle.layer_spec.specs.Decodes.{ShowsRecord, ShowsRow}
use Rattle.layer_spec.specs.Decoding.{group_of}
use Rattle.layer_spec.specs.Moment.{Moment, Seen}
use Rattle.layer_spec.specs.Rows.{GroupWord, group_place, main_place}
use Rattle.layer_spec.specs.Words.{row_of}
use Rattle.roster.specs.Orphaned.{is_process_number}
use Rattle.roster.specs.Words.{is_live_word}
use Rattle.layer_turns.specs.OwnTurns.{goes_to}
use Rattle.world_spec.specs.AnswerLaws.{own-row-kept, own-unmarked}
use Rattle.world_spec.specs.LiveLaws.{shown-live}
use Rattle.world_spec.specs.Notes.{IsAtNext}
use Rattle.world_spec.specs.OwnChangesRows.{own-shown}
use Rattle.world_spec.specs.Owes.{KeepsClause, KeepsTurn, OwnTurn}
use Rattle.world_spec.specs.Sound.{IsSoundMoment}
use Rattle.layer_actor.specs.declared.gets.Asked.{Asked}
use Rattle.layer_actor.specs.declared.gets.Asked.TheVariants as asked
use Rattle.layer_actor.specs.declared.gets.GetStep.{GetStep}
use Rattle.layer_actor.specs.declared.gets.GetStep.TheVariants as get
use Rattle.layer_actor.specs.declared.gets.Gets.{Gets}
use Rattle.layer_actor.specs.Gets.{get_answers, get_grouped, get_posted}
use Rattle.layer_actor.specs.Gets.{get_step_after}
use Rattle.layer_actor.specs.GetsClause.{GetClause, GetsClause, GetsGoes, IsAtParent, get_instr, gets-outlasts}
use Rattle.layer_actor.specs.GetsClause.{gets_thread}
use Rattle.layer_actor.specs.GetsLooks.{found_word, looks_last, looks_on}

-- A raw parent that is no process's number is that of nobody: the process is shown 1.
no_parent : (script : Script) → IsValid script → (parent : ℕ)
    → (parent ≡ 1) ⊎ ((2 ≤ parent) × (parent ≤ script.setup.limits.rows + 1)) → is_process_number parent ≡ false
    → parent ≡ 1
no_parent script valid parent known none = elim known [
  | inl one ↦ one
  | inr within ↦ absurd (
      let rows : script.setup.limits.rows ≤ 4000 = leb-true script.setup.limits.rows 4000
      (second_of (nat_le 1 script.setup.limits.rows) (nat_le script.setup.limits.rows 4000)
      (second_of (is_within 1 64 script.setup.limits.slots) _ (first_of _ _ valid.limits))) in
      let low = le-leb 2 parent within.0 in
      let high = le-leb parent 4001 (omega (arith, within.1, rows)) in
      let is : is_process_number parent ≡ true = rw (low, high) refl in
      let never : true ≡ false = sym is ∙ none in cc)
]

-- one whose raw parent is 1 is shown 1
shown_one : (s : PosixState) (r : Record) → r.parent ≡ 1 → shown_parent s r ≡ 1
shown_one s r e = ap (λ k. if is_live_at (record_of s k) then k else 1) e ∙ by_test (is_live_at (record_of s 1)) 1
  where
    by_test : (b : Bool) (n : ℕ) → (if b then n else n) ≡ n
    by_test true n = refl
    by_test false n = refl

module _ {A : Type 0} (script : Script) (row : ℕ) (past : List (Seen A)) (now : Moment A) (slot : ℕ) (called : Call)
    (reply : Reply) (given : Option Event) (next : Option Gets) (new : Win32State)
    (sound : IsSoundMoment script past now) where
  abbrev part_at : Asked → GetStep → Gets
  part_at a s = record { row = row; asked = a; step = s }

  abbrev Result : ℕ → Type 0
  Result w = KeepsTurn get_posted GetsGoes gets_thread
      (GetsClause script row) script past now slot 0 w called reply given
      next new

  abbrev TurnAt : Asked → GetStep → Type 0
  TurnAt a s = OwnTurn get_posted GetsGoes script now.win32 slot 0 (part_at a s) called reply given next new

  -- the bytes of its process after its call
  abbrev its_bytes : (a : Asked) (s : GetStep) → TurnAt a s → Own
  its_bytes a s turn = memory_by turn.mid turn.process.number

  -- The look at the own group word.
  module _ (a : Asked) (turn : TurnAt a get.Grouping)
      (at : IsAtNext script now turn.process.number row (CallInstruction (get_instr a))) (valid : IsValid script) where
    abbrev own_bytes : Own
    own_bytes = memory_by turn.mid turn.process.number

    shows : (h : ShowsRow script (λ q. q.own) now.win32 now.posix row)
        × ShowsRecord script (λ q. q.own) now.win32 now.posix row h.main at.noted
    shows =
        let h = sound.decodes.rows row at.own.from in
        (h, own-shown script now.win32 now.posix row at.noted at.found h)

    -- with the word, which tells the record's parent, group and session
    grouped : (g : GroupWord) → at.noted.parent ≡ g.parent → at.noted.group ≡ g.group → at.noted.session ≡ g.session
        → get_step_after row a get.Grouping own_bytes reply ≡ get_grouped row a own_bytes (Some g)
        → Result turn.process.number
    grouped g parent group session = by_asked a turn at parent group session
      where
        by_asked : (b : Asked) (t : TurnAt b get.Grouping)
            (h : IsAtNext script now t.process.number row (CallInstruction (get_instr b)))
            → h.noted.parent ≡ g.parent → h.noted.group ≡ g.group → h.noted.session ≡ g.session
            → get_step_after row b get.Grouping (memory_by t.mid t.process.number) reply
            ≡ get_grouped row b (memory_by t.mid t.process.number) (Some g) → Result t.process.number
        by_asked asked.Group t h parent group session e =
            looks_last script row past now slot called reply given next new sound asked.Group get.Grouping
            (group_place row) refl t g.group e h (ap (λ k. Some k) group)
        by_asked asked.Session t h parent group session e =
            looks_last script row past now slot called reply given next new sound asked.Session get.Grouping
            (group_place row) refl t g.session e h (ap (λ k. Some k) session)
        by_asked asked.Parent t h parent group session e = by_number (is_process_number g.parent) refl
          where
            by_number : (x : Bool) → is_process_number g.parent ≡ x → Result t.process.number
            by_number true is =
                let from : 2 ≤ g.parent = leb-true 2 g.parent (first_of (nat_le 2 g.parent)
                (nat_le g.parent 4001) is) in
                looks_on script row past now slot called reply given next new sound asked.Parent get.Grouping
                (group_place row) refl t (get.Parent (row_of g.parent))
                (e ∙ ap (λ x. if x then goes_to (get.Parent
                (row_of g.parent)) (its_bytes asked.Parent get.Grouping t) else get_answers row asked.Parent
                (its_bytes asked.Parent get.Grouping t) 1) is)
                (λ after change posix. (
                  refl,
                  record {
                    at = record {
                      own = own-row-kept now.win32 after.win32 t.process.number row change h.own;
                      noted = h.noted;
                      found = ap (λ s. record_of s (row + 1)) posix ∙ h.found;
                      call = h.call;
                      blocked = h.blocked;
                      runs = h.runs;
                      not_due = h.not_due;
                      next_is = h.next_is;
                      unmarked = own-unmarked now.win32 after.win32 t.process.number row change h.unmarked;
                    };
                    from = omega (arith, from);
                    parent_is = parent ∙ omega (arith, from);
                  },
                ))
            by_number false none =
                let formed = (sound.posix.each (row + 1) h.noted h.found).numbers in
                let known : (g.parent ≡ 1) ⊎ ((2 ≤ g.parent) × (g.parent ≤ script.setup.limits.rows + 1)) =
                elim formed.parent_number [
                  | inl one ↦ inl (sym parent ∙ one)
                  | inr used ↦ inr (subst (λ k. (2 ≤ k) × (k ≤ script.setup.limits.rows + 1)) parent
                      (sound.posix.numbers h.noted.parent used))
                ] in
                let one : h.noted.parent ≡ 1 = parent ∙ no_parent script valid g.parent known none in
                looks_last script row past now slot called reply given next new sound asked.Parent get.Grouping
                (group_place row) refl t 1
                (e ∙ ap (λ x. if x then goes_to (get.Parent (row_of g.parent))
                (its_bytes asked.Parent get.Grouping t) else get_answers row asked.Parent
                (its_bytes asked.Parent get.Grouping t) 1)
                none) h (ap (λ k. Some k) (shown_one now.posix h.noted one))

    pub get-groups : Result turn.process.number
    get-groups = by_reply reply refl
      where
        by_reply : (r : Reply) → reply ≡ r → Result turn.process.number
        by_reply (answer.Word x) e =
            let s = shows.1 in
            let is : group_of x ≡ Some s.group_word =
            ap group_of (found_word script row past now slot called reply given next new sound a get.Grouping
            (group_place row) refl turn x e) ∙ s.group_decodes in
            grouped s.group_word s.parent s.group s.session
            (ap (get_step_after row a get.Grouping own_bytes) e ∙ ap (get_grouped row a own_bytes) is)
        by_reply r e =
            looks_on script row past now slot called reply given next new sound a get.Grouping
            (group_place row) refl turn get.Rest
            (ap (get_step_after row a get.Grouping own_bytes) e) (λ after change posix. tt)

  -- The look at the parent's main word: it is answered as it is at that step.
  pub get-parent : (parent : ℕ) (turn : TurnAt asked.Parent (get.Parent parent))
      → IsAtParent script now turn.process.number row parent → Result turn.process.number
  get-parent parent turn h = by_reply reply refl
    where
      by_reply : (r : Reply) → reply ≡ r → Result turn.process.number
      by_reply (answer.Word x) e =
          let live : is_live_at (record_of now.posix (parent + 1)) ≡ is_live_word x =
          shown-live script now.win32 now.posix parent (sound.decodes.rows parent h.from)
          ∙ ap is_live_word (sym (found_word script row past now slot called reply given next new sound asked.Parent
          (get.Parent parent) (main_place parent) refl turn x e)) in
          let shown : shown_parent now.posix h.at.noted ≡ (if is_live_word x then parent + 1 else 1) =
          ap (λ k. if is_live_at (record_of now.posix k) then k else 1) h.parent_is
          ∙ ap (λ c. if c then parent + 1 else 1) live in
          looks_last script row past now slot called reply given next new sound asked.Parent (get.Parent parent)
          (main_place parent) refl turn
          (if is_live_word x then parent + 1 else 1) (ap (get_step_after row asked.Parent (get.Parent parent)
          (its_bytes asked.Parent (get.Parent parent) turn)) e) h.at
          (ap (λ k. Some k) shown)
      by_reply r e =
          looks_on script row past now slot called reply given next new sound asked.Parent (get.Parent parent)
          (main_place parent) refl turn get.Rest
          (ap (get_step_after row asked.Parent (get.Parent parent) (its_bytes asked.Parent
          (get.Parent parent) turn)) e) (λ after change posix. tt)

  by_step : IsValid script → (a : Asked) (s : GetStep) (turn : TurnAt a s)
      → GetClause script row now turn.process.number a s → Result turn.process.number
  by_step valid a get.Grouping turn h = get-groups a turn h valid
  by_step valid asked.Parent (get.Parent parent) turn h = get-parent parent turn h.1
  by_step valid asked.Group (get.Parent parent) turn h = absurd (let e : asked.Group ≡ asked.Parent = h.0 in cc)
  by_step valid asked.Session (get.Parent parent) turn h = absurd (let e : asked.Session ≡ asked.Parent = h.0 in cc)
  by_step valid a get.Done turn h = absurd (
      subst (λ c. CallStep script now.win32 turn.process.number 0 c reply turn.mid) turn.own_call turn.posted.step)
  by_step valid a get.Rest turn h = absurd (
      subst (λ c. CallStep script now.win32 turn.process.number 0 c reply turn.mid) turn.own_call turn.posted.step)

  pub gets-turns : IsValid script → (part : Gets)
      (turn : OwnTurn get_posted GetsGoes script now.win32 slot 0 part called reply given next new)
      → GetsClause script row past now turn.process.number part → Result turn.process.number
  gets-turns valid part turn h =
      subst (λ k. (t : OwnTurn get_posted GetsGoes script now.win32 slot 0
      (record { row = k; asked = part.asked; step = part.step }) called reply given next new)
      → GetClause script row now t.process.number part.asked part.step → Result t.process.number) (sym h.0)
      (λ t c. by_step valid part.asked part.step t c) turn h.1

-- A get gives what it owes.
pub gets-keeps : {A : Type 0} → (script : Script) (row : ℕ) → IsValid script
    → KeepsClause {A = A} get_posted GetsGoes gets_thread (GetsClause script row) script
gets-keeps script row valid = record {
  outlasts = λ step seen w part beside before after h. gets-outlasts script row step seen w beside before after part h;
  turns = λ past now slot t part called reply given next new sound spare thread turn h.
      subst (λ k. (u : OwnTurn get_posted GetsGoes script now.win32 slot k part called reply given next new)
      → GetsClause script row past now u.process.number part
      → KeepsTurn get_posted GetsGoes gets_thread (GetsClause script row) script past now slot k u.process.number called
      reply given next new) thread
      (λ u c. gets-turns script row past now slot called reply given next new sound valid part u c) turn h;
}
