-- The start of an image gives what a part owes; its clause holds where the machine opens with the first process.
use Rattle.std.proofs.Common.{◌≡◌, inl, ℕ, zero, suc, ◌+◌, ◌≤◌, Bool, true, false, nat_eq, if◌then◌else◌, List, []}
use Rattle.std.proofs.Common.{Option, Some, None, slice_get, slice_index_or, refl, sym, ap, ◌∙◌, subst, arith}
use Rattle.w32_base.specs.declared.call.Call.{Call}
use Rattle.w32_base.specs.declared.call.Reply.{Reply}
use Rattle.w32_base.specs.declared.event.Event.{Event}
use Rattle.vm_spec.specs.Image.{Image}
use Rattle.script_spec.specs.declared.script.Script.{Script}
use Rattle.win32_spec.specs.Lookup.{number_of, number_in, memory_by}
use Rattle.win32_spec.specs.LookupLaws.{differs}
use Rattle.win32_spec.specs.MemoryEffects.{HaveRegisters}
use Rattle.win32_spec.specs.Named.{handles_by}
use Rattle.win32_spec.specs.Opening.{IsOpening, opening, opening_host, opening_process, opening_words}
use Rattle.win32_spec.specs.Opening.{first_main_word}
use Rattle.win32_spec.specs.Ready.{is_ready}
use Rattle.win32_spec.specs.State.{Win32State}
use Rattle.posix_spec.specs.Opening.{first_image, opening_of}
use Rattle.posix_spec.specs.State.{NoCall, opening_record, record_of}
use Rattle.layer_spec.specs.Decoding.{main_image, exit_of}
use Rattle.layer_spec.specs.Moment.{Moment, Seen, HistoryStep, seen_with}
use Rattle.layer_spec.specs.OpeningLaws.{first_record_of}
use Rattle.layer_spec.specs.Rows.{ExitWord}
use Rattle.layer_spec.specs.Turns.{is_live_process}
use Rattle.layer_spec.specs.Words.{main_at, exit_at}
use Rattle.roster.specs.Words.{is_live_word}
use Rattle.world_spec.specs.Facts.{CarriesImage}
use Rattle.world_spec.specs.Notes.{IsBetweenCalls}
use Rattle.world_spec.specs.OpenLaws.{HasFirst}
use Rattle.world_spec.specs.Owes.{OwnTurn, KeepsTurn, KeepsClause}
use Rattle.world_spec.specs.SeenStep.{IsSeenStep, IsBeside}
use Rattle.world_spec.specs.Sound.{IsSoundMoment}
use Rattle.layer_actor.specs.declared.start.StartStep.TheVariants as start
use Rattle.layer_actor.specs.declared.start.Start.{Start}
use Rattle.layer_actor.specs.Start.{start_posted, is_first}
use Rattle.layer_actor.specs.StartClause.{StartGoes, start_thread, StartClause, start-stands}
use Rattle.layer_actor.specs.StartTurns.{start-goes}

-- What is known of a process that was made while its main thread is at its opening outlasts the steps beside it, and
-- that thread goes on only where its start record isn't the first process's.
pub record IsKnownOfMade {A : Type 0} (script : Script) (made : List (Seen A) → Moment A → ℕ → Type 0) : Type 0 where
  pub stays : (step : HistoryStep A) → IsSeenStep script step → (w : ℕ) → IsBeside step w 0
      → is_live_process step.before.win32 w ≡ true → is_live_process step.after.win32 w ≡ true
      → made step.past step.before w → made (seen_with step) step.after w
  pub rests : (past : List (Seen A)) (now : Moment A) → IsSoundMoment script past now → (slot w : ℕ)
      → number_in now.win32 slot ≡ Some w → is_ready now.win32 slot 0 ≡ true → made past now w
      → is_first (memory_by now.win32 w) ≡ false

-- where no process is made, nothing is known of one
abbrev pub NoneMade : {A : Type 0} → List (Seen A) → Moment A → ℕ → Type 0
NoneMade past now w = ⊥

pub none-made : {A : Type 0} → (script : Script) → IsKnownOfMade {A = A} script NoneMade
none-made script = record {
  stays = λ step seen w beside before after h. h;
  rests = λ past now sound slot w number ready h. absurd h;
}

module _ {A : Type 0} (script : Script) (registers : HaveRegisters script)
    (made : List (Seen A) → Moment A → ℕ → Type 0) (known : IsKnownOfMade script made) (row : ℕ) where
  start_turns : (past : List (Seen A)) (now : Moment A) (slot t : ℕ) (part : Start) (called : Call) (reply : Reply)
      (given : Option Event) (next : Option Start) (new : Win32State) → IsSoundMoment script past now
      → start_thread part ≡ t
      → (turn : OwnTurn start_posted StartGoes script now.win32 slot t part called reply given next new)
      → StartClause made row past now turn.process.number part
      → KeepsTurn start_posted StartGoes start_thread (StartClause made row) script past now slot t turn.process.number
      called reply given next new
  start_turns past now slot t part called reply given next new sound same =
      subst (λ u. (turn : OwnTurn start_posted StartGoes script now.win32 slot u part called reply given next new)
      → StartClause made row past now turn.process.number part
      → KeepsTurn start_posted StartGoes start_thread (StartClause made row) script past now slot u turn.process.number
      called reply given next new) same
      (start-goes script made known.rests row past now slot part.image called reply given next new sound part.step)

  -- The start of an image, by what is known of processes that are made, gives what it owes.
  pub start-keeps : KeepsClause start_posted StartGoes start_thread (StartClause made row) script
  start-keeps = record {
    outlasts = λ step seen w part beside before after h.
        start-stands script registers made row step seen w beside before after
        (known.stays step seen w beside before after) part.image part.step h;
    turns = λ past now slot t part called reply given next new sound spare same turn h.
        start_turns past now slot t part called reply given next new sound same turn h;
  }

-- The opening. Row 1 is live and names process 2, which has three handles and no call.
first_word : slice_index_or opening_words 1 0 ≡ first_main_word
unfolding opening_words
first_word = refl

first_exit : slice_index_or opening_words 3 0 ≡ 0
unfolding opening_words
first_exit = refl

-- the image that an exit word tells, or 0
abbrev image_told : Option ExitWord → ℕ
image_told None = 0
image_told (Some e) = e.image

-- an exit word of 0 tells image 0, which the first main word doesn't name
unmarked_first : (s : Win32State) → main_at s 1 ≡ first_main_word → exit_at s 1 ≡ 0 → CarriesImage s 1 → ⊥
unmarked_first s main exit carries =
    let told : exit_of 0 ≡ Some carries.word = ap exit_of (sym exit) ∙ carries.decodes in
    let image : carries.word.image ≡ 2 = carries.image ∙ ap main_image main in
    let none : 0 ≡ carries.word.image = ap image_told told in
    absurd (let never : 0 ≡ 2 = none ∙ image in cc)

no_call : (image : Image) → (opening_record image).call ≡ NoCall
unfolding opening_record
no_call image = refl

not_blocked : (image : Image) → (opening_record image).blocked ≡ false
unfolding opening_record
not_blocked image = refl

module _ {A : Type 0} (script : Script) (now : Moment A) (opens : IsOpening script now.win32)
    (posix : now.posix ≡ opening_of script) where
  abbrev first : Win32State
  first = opening opens.numbers opens.program opens.placed

  -- the process in a slot from 1 up is the first one
  is_second : (slot w : ℕ) → 1 ≤ slot → number_in now.win32 slot ≡ Some w → 2 ≡ w
  is_second slot w from number =
      by_tests (nat_eq 0 slot) (nat_eq 1 slot) (differs 0 slot (λ e. omega (arith, from, e)))
      (ap (λ s. number_in s slot) (sym opens.state) ∙ number)
    where
      by_tests : (a b : Bool) → a ≡ false
          → number_of (if a then Some (opening_host opens.numbers)
          else if b then Some (opening_process opens.numbers opens.program opens.placed) else None) ≡ Some w → 2 ≡ w
      by_tests true b e f = absurd (let g : true ≡ false = e in cc)
      by_tests false true e f = let g : Some 2 ≡ Some w = f in cc
      by_tests false false e f = absurd (let g : None ≡ Some w = f in cc)

  first_handles : HasFirst (handles_by first 2) 3
  first_handles zero from most = absurd (omega (arith, from))
  first_handles (suc zero) from most = (opens.numbers.section, refl)
  first_handles (suc (suc zero)) from most = (opens.numbers.mutex, refl)
  first_handles (suc (suc (suc zero))) from most = (opens.numbers.terminal + 1, refl)
  first_handles (suc (suc (suc (suc j)))) from most = absurd (omega (arith, most))

  between : IsBetweenCalls now 2 1
  between =
      let image = first_image (slice_get script.setup.programs 0) in
      let word : main_at now.win32 1 ≡ first_main_word = ap (λ s. main_at s 1) opens.state ∙ first_word in
      let exit : exit_at now.win32 1 ≡ 0 = ap (λ s. exit_at s 1) opens.state ∙ first_exit in
      record {
        own = record {
          from = omega arith;
          live = ap is_live_word word;
          image = ap main_image word;
        };
        noted = opening_record image;
        found = ap (λ p. record_of p 2) posix ∙ first_record_of image 2;
        call = no_call image;
        blocked = not_blocked image;
        unmarked = λ carries. unmarked_first now.win32 word exit carries;
      }

  -- The clause holds as the first process opens, whose row is 1 and whose image is 2.
  pub start-begins : (made : List (Seen A) → Moment A → ℕ → Type 0) (slot w : ℕ) → 1 ≤ slot
      → number_in now.win32 slot ≡ Some w
      → StartClause made 1 [] now w (record { image = 2; step = start.Opening })
  start-begins made slot w from number =
      let two = is_second slot w from number in
      inl (record {
        itself = two;
        between = subst (λ k. IsBetweenCalls now k 1) two between;
        handles = subst (λ k. HasFirst (handles_by now.win32 k) 3) two
            (subst (λ s. HasFirst (handles_by s 2) 3) (sym opens.state) first_handles);
      })
