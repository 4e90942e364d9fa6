-- The tables stay sound where processes change but not their numbers and handles.
use Rattle.std.proofs.Common.{◌≡◌, ◌≢◌, ◌∙◌, inl, inr, ℕ, ◌+◌, ◌*◌, ◌<◌, ◌≤◌, List, length, Option}
use Rattle.std.proofs.Common.{Some, None}
use Rattle.std.proofs.Common.{IsSome, IfSome, slice_get, slice_index_or, slice_set, refl, sym}
use Rattle.std.proofs.Common.{ap, subst, arith}
use Rattle.std.proofs.lemmas.Bool.{cases_lt}
use Rattle.std.proofs.lemmas.List.{length-set, get_or-set_same, get_or-set_other, get_or_read}
use Rattle.w32_base.specs.declared.call.Call.{Call}
use Rattle.win32_spec.specs.State.{Thread, Process}
use Rattle.win32_spec.specs.Lookup.{process_in, thread_in, thread_of, thread_at, with_posted}
use Rattle.win32_spec.specs.Lookup.{object_number, change_process, change_thread, number_of}
use Rattle.std.specs.Vec.{with_item}
use Rattle.std.specs.VecDeque.{deque_capacity}
use Rattle.w32_handles.specs.Shown.{objects_of}
use Rattle.w32_machine.specs.Contract.{key_lines}
use Rattle.win32_spec.specs.LookupLaws.{before, not_before, same_some}
use Rattle.win32_spec.specs.Making.{opening_call}
use Rattle.win32_spec.specs.Pipes.{all_holders_of}
use Rattle.win32_spec.specs.StepLaws.{acting, posted_tame}
use Rattle.win32_spec.specs.TameLaws.{wellformed-tame}
use Rattle.win32_spec.specs.WellFormed.{IsWellFormed}
use Rattle.w32_handles.specs.CountLaws.{all_holders-keep}
use Rattle.w32_handles.specs.Table.{object_at}
use Rattle.w32_process.specs.Places.{Place}
use Rattle.w32_process.specs.Table.{place_at, number_at}
use Rattle.w32_process.specs.Sound as processes
use Rattle.w32_process.specs.SoundLaws.{within_slots}
use Rattle.w32_process.specs.ChangeLaws.{processes-with_posted}
use Rattle.w32_process.specs.ThreadLaws.{thread_shown, thread_in-threads}
use Rattle.w32_kinds.specs.declared.kind.Kind.{Kind}
use Rattle.w32_kinds.specs.declared.kind.Kind.TheVariants as kind
use Rattle.w32_machine.specs.declared.machine.Machine.TheInside.{Inside}
use Rattle.w32_machine.specs.Running.{Running}
use Rattle.w32_kinds.specs.Shown.{shown}
use Rattle.w32_machine.specs.View.{posted_in, placed_in, view_of}
use Rattle.w32_machine.specs.Sound.{IsKind, IsSound}
use Rattle.w32_machine.proofs.Slots.{its_process, found_in, live, number_in-at}

-- what the code keeps of an object, over processes with the same numbers and holders
kind-over : (slots slots' : List Place) (ps ps' : List Process) (section o : ℕ) (x : Kind)
    → ((k : ℕ) → number_at slots' k ≡ number_at slots k)
    → ((q : ℕ) → all_holders_of ps' q ≡ all_holders_of ps q)
    → IsKind slots ps section o x → IsKind slots' ps' section o x
kind-over slots slots' ps ps' section o (kind.Section words) numbers holders h = h
kind-over slots slots' ps ps' section o (kind.Event e) numbers holders h = tt
kind-over slots slots' ps ps' section o (kind.Mutex owner) numbers holders h = tt
kind-over slots slots' ps ps' section o (kind.Pipe p) numbers holders h =
    (h.0 ∙ sym (holders o), h.1 ∙ sym (holders (o + 1)))
kind-over slots slots' ps ps' section o (kind.Process w slot) numbers holders h = λ k e. h k (sym (numbers k) ∙ e)
kind-over slots slots' ps ps' section o (kind.Terminal terminal) numbers holders h = tt

-- the machine m' has other processes, posted calls and modules than m
pub record IsOver (m m' : Inside) : Type 0 where
  pub script : m'.script ≡ m.script
  pub table : processes.IsSound m'.processes
  pub slots : length m'.processes.slots ≡ length m.processes.slots
  pub objects : m'.objects ≡ m.objects
  pub section : m'.section ≡ m.section
  pub posted : length m'.posted.items ≡ length m.posted.items
  pub placed : length m'.placed.items ≡ length m.placed.items
  pub keys : m'.keys ≡ m.keys
  pub numbers : (k : ℕ) → number_at m'.processes.slots k ≡ number_at m.processes.slots k
  pub holders : (q : ℕ) → all_holders_of (view_of m').win32.processes q ≡ all_holders_of (view_of m).win32.processes q

pub sound-over : (m m' : Inside) → IsSound m → IsOver m m' → IsWellFormed m'.script (view_of m').win32 → IsSound m'
sound-over m m' sound over formed = record {
  state = formed;
  table = over.table;
  slots = over.slots ∙ sound.slots ∙ ap (λ script. script.setup.limits.slots + 1) (sym over.script);
  posted = over.posted ∙ sound.posted ∙ ap (λ n. 3 * n) (sym over.slots);
  placed = over.placed ∙ sound.placed ∙ sym over.slots;
  held = λ o kept e.
      let old = sound.held o kept (ap (λ t. object_at t o) (sym over.objects) ∙ e) in
      let n : ℕ = object_number o in
      record {
        holders = omega (arith, old.holders, over.holders n, over.holders (n + 1));
        kind = subst (λ i. IsKind m'.processes.slots (view_of m').win32.processes i n kept.object) (sym over.section)
            (kind-over m.processes.slots m'.processes.slots (view_of m).win32.processes (view_of m').win32.processes
            m.section n kept.object over.numbers over.holders old.kind);
      };
  room = subst (λ t. 4160 ≤ length (objects_of shown t.places) + t.spare) (sym over.objects) sound.room;
  keys = subst (λ script. key_lines script.directives ≤ deque_capacity m'.keys) (sym over.script)
      (subst (λ q. key_lines m.script.directives ≤ deque_capacity q) (sym over.keys) sound.keys);
}

-- the thread of a place
thread-there : (o : Option Process) (t : ℕ) → IsSome (thread_of o t)
    → (p : Process) × (x : Thread) × (o ≡ Some p) × (thread_in p.threads t ≡ Some x)
thread-there (Some p) t some = by_thread (thread_in p.threads t) refl some
  where
    by_thread : (o : Option Thread) → thread_in p.threads t ≡ o → IsSome o
        → (q : Process) × (x : Thread) × (Some p ≡ Some q) × (thread_in q.threads t ≡ Some x)
    by_thread (Some x) e some = (p, x, refl, e)
    by_thread None e some = absurd (cc)
thread-there None t some = absurd (cc)

module _ (m : Inside) (sound : IsSound m) (slot t : ℕ) (some : IsSome (thread_at (view_of m).win32 slot t)) where
  pub there : (p : Process) × (x : Thread) × (process_in (view_of m).win32.processes slot ≡ Some p)
      × (thread_in p.threads t ≡ Some x)
  there = thread-there (process_in (view_of m).win32.processes slot) t some

  pub stands_at : number_at m.processes.slots slot ≡ Some there.0.number
  stands_at = sym (number_in-at m sound slot) ∙ ap number_of there.2

  pub few : t ≤ 2
  few = (acting m.script (view_of m).win32 slot t there.0 there.1 sound.state.formed
      (record { process = there.2; thread = there.3 })).few

  pub few-places : (slot ≤ 64) × (t ≤ 2)
  few-places = (omega (arith, within_slots m.processes.slots slot there.0.number stands_at, sound.table.few), few)

  pub within_posted : 3 * slot + t < length m.posted.items
  within_posted = omega (arith, within_slots m.processes.slots slot there.0.number stands_at, sound.posted, few)

  pub its_call : there.1.posted ≡ slice_index_or m.posted.items (3 * slot + t) opening_call
  its_call =
      let is : there.0 ≡ its_process m sound slot there.0.number stands_at =
      same_some (process_in (view_of m).win32.processes slot) there.0
      (its_process m sound slot there.0.number stands_at) there.2 (found_in m sound slot there.0.number stands_at) in
      by_count (slice_get (place_at m.processes.slots slot).suspended t)
      (sym (thread_in-threads (posted_in m.posted.items slot) (place_at m.processes.slots slot).suspended t)
      ∙ ap (λ (p : Process). thread_in p.threads t) (sym is) ∙ there.3)
    where
      by_count : (o : Option ℕ) → thread_shown (posted_in m.posted.items slot) t o ≡ Some there.1
          → there.1.posted ≡ slice_index_or m.posted.items (3 * slot + t) opening_call
      by_count None e = absurd (cc)
      by_count (Some n) e =
          let f : record { number = t; suspended = n; posted = posted_in m.posted.items slot t } ≡ there.1 = cc in
          let b = before t 3 (omega (arith, few)) in
          ap (λ (x : Thread). x.posted) (sym f) ∙ rw b refl

  pub call-found : (i : ℕ) → i ≡ 3 * slot + t → (now : Running) → view_of m ≡ now → (call : Call)
      → call ≡ slice_index_or m.posted.items i call → IfSome (thread_at now.win32 slot t) (λ x. call ≡ x.posted)
  call-found i is now shows call e =
      let read : call ≡ slice_index_or m.posted.items i opening_call =
      get_or_read m.posted.items i call (omega (arith, is, within_posted)) e opening_call in
      subst (λ (r : Running). IfSome (thread_at r.win32 slot t) (λ x. call ≡ x.posted)) shows
      (subst (λ o. IfSome (thread_of o t) (λ x. call ≡ x.posted)) (sym there.2)
      (subst (λ o. IfSome o (λ x. call ≡ x.posted)) (sym there.3)
      (read ∙ ap (λ j. slice_index_or m.posted.items j opening_call) is ∙ sym its_call)))

  -- another posted call
  module _ (i : ℕ) (is : i ≡ 3 * slot + t) (call : Call) where
    abbrev pub posting : Inside
    posting = record m { posted = with_item m.posted i call }

    posts : (view_of posting).win32.processes ≡
        change_process there.0.number
        (λ p. record p { threads = change_thread t (λ x. record x { posted = call }) p.threads })
        (view_of m).win32.processes
    posts =
        processes-with_posted m.processes sound.table slot there.0.number stands_at (posted_in m.posted.items)
        (posted_in (slice_set m.posted.items i call)) (placed_in m.placed.items) t call this others aside
      where
        this : posted_in (slice_set m.posted.items i call) slot t ≡ call
        this =
            let b = before t 3 (omega (arith, few)) in
            rw b (subst (λ j. slice_index_or (slice_set m.posted.items i call) j opening_call ≡ call) is
            (get_or-set_same m.posted.items i call opening_call (omega (arith, is, within_posted))))

        others : (u : ℕ) → u ≢ t → posted_in (slice_set m.posted.items i call) slot u ≡ posted_in m.posted.items slot u
        others u d =
            elim (cases_lt u 3) [
              | inl l ↦ let b = before u 3 l in
                  rw b (get_or-set_other m.posted.items i (3 * slot + u) call opening_call
                  (λ e. d (omega (arith, e, is))))
              | inr l ↦ let b = not_before u 3 l in rw b refl
            ]

        aside : (k u : ℕ) → k ≢ slot → posted_in (slice_set m.posted.items i call) k u ≡ posted_in m.posted.items k u
        aside k u d =
            elim (cases_lt u 3) [
              | inl l ↦ let b = before u 3 l in
                  rw b (get_or-set_other m.posted.items i (3 * k + u) call opening_call
                  (λ e. d (omega (arith, e, is, few, l))))
              | inr l ↦ let b = not_before u 3 l in rw b refl
            ]

    pub posting-is : (view_of posting).win32 ≡ with_posted (view_of m).win32 there.0.number t call
    posting-is = ap (λ (ps : List Process). record (view_of m).win32 { processes = ps }) posts

    pub posting-posts : (now : Running) → view_of m ≡ now → (p : Process)
        → process_in now.win32.processes slot ≡ Some p
        → (view_of posting).win32 ≡ with_posted now.win32 p.number t call
    posting-posts now shows p e =
        let f : there.0 ≡ p = same_some (process_in now.win32.processes slot) there.0 p
        (ap (λ (r : Running). process_in r.win32.processes slot) (sym shows) ∙ there.2) e in
        posting-is ∙ ap (λ (q : Process). with_posted (view_of m).win32 q.number t call) f
        ∙ ap (λ (r : Running). with_posted r.win32 p.number t call) shows

    pub posting-sound : IsSound posting
    posting-sound =
        sound-over m posting sound
        (record {
          script = refl;
          table = sound.table;
          slots = refl;
          objects = refl;
          section = refl;
          posted = length-set {A = Call} m.posted.items i call;
          placed = refl;
          keys = refl;
          numbers = λ k. refl;
          holders = λ q. ap (λ ps. all_holders_of ps q) posts
              ∙ all_holders-keep there.0.number
              (λ p. record p { threads = change_thread t (λ x. record x { posted = call }) p.threads }) (λ p. refl)
              (λ p. refl) (view_of m).win32.processes q;
        })
        (subst (IsWellFormed m.script) (sym posting-is)
        (wellformed-tame m.script (λ v. v ≡ there.0.number) ⊥ (Unit {0}) there.0.number t (view_of m).win32
        (with_posted (view_of m).win32 there.0.number t call) sound.state
        (posted_tame m.script (view_of m).win32 there.0.number t call (live m sound slot there.0.number stands_at))
        (live m sound slot there.0.number stands_at) few))
