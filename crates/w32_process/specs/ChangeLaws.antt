-- A change of one live process in a table, or of what is known of it beside the table, is that change of its process.
use Rattle.std.proofs.Common.{◌≡◌, ◌≢◌, inl, inr, ℕ, ◌<◌, List, Some, slice_get, slice_set, refl, sym}
use Rattle.std.proofs.Common.{ap, ◌∙◌, length}
use Rattle.std.proofs.lemmas.Bool.{cases_eq}
use Rattle.std.proofs.lemmas.List.{get_or-set_same, get_or-set_other, set-get_or}
use Rattle.w32_base.specs.declared.call.Call.{Call}
use Rattle.w32_base.specs.declared.own.Own.{Own}
use Rattle.win32_spec.specs.Handles.{Handle}
use Rattle.win32_spec.specs.State.{PlacedModule, Process}
use Rattle.win32_spec.specs.Lookup.{process_of, change_process, change_thread}
use Rattle.win32_spec.specs.LookupLaws.{process_of-change_same, process_of-change_other, rising-change_process}
use Rattle.w32_process.specs.Places.{Place, empty_place}
use Rattle.w32_process.specs.Table.{Table, place_at, number_at, count_at, with_place, with_handles, with_own}
use Rattle.w32_process.specs.Table.{with_count}
use Rattle.w32_process.specs.Sound.{IsSound}
use Rattle.w32_process.specs.SoundLaws.{number_at-set_same, number_at-set_other, IsSound-same, within_slots}
use Rattle.w32_process.specs.Processes.{live_process, processes_of}
use Rattle.w32_process.specs.ProcessLaws.{Finds, same_processes}
use Rattle.w32_process.specs.TableLaws.{IsInNone}
use Rattle.w32_process.specs.FoundLaws.{slot_of, rising-processes, process_of-live, process_of-aside}
use Rattle.w32_process.specs.ThreadLaws.{same_threads, count-threads, posted-threads}

-- the process of a slot with another place, which has the same number
module _ (posted posted' : ℕ → ℕ → Call) (placed placed' : ℕ → List PlacedModule) (t : Table) (sound : IsSound t)
    (slot w : ℕ) (stands : number_at t.slots slot ≡ Some w) (place : Place) (stays : place.number ≡ Some w)
    (f : Process → Process) (keeps : (p : Process) → (f p).number ≡ p.number)
    (this : live_process posted' placed' slot w place ≡ f (live_process posted placed slot w (place_at t.slots slot)))
    (others : (k v : ℕ) (p : Place) → k ≢ slot
    → live_process posted' placed' k v p ≡ live_process posted placed k v p) where
  within : slot < length t.slots
  within = within_slots t.slots slot w stands

  sound_after : IsSound (with_place t slot place)
  sound_after = IsSound-same t.next t.slots t.kept slot place within (stays ∙ sym stands) sound

  finds : Finds (processes_of posted' placed' (with_place t slot place))
      (change_process w f (processes_of posted placed t))
  finds v =
      elim (cases_eq v w) [
        | inl n ↦ rw n (here ∙ sym changed)
        | inr d ↦ elim (slot_of t.slots v) [
          | inl k ↦ there k.0 k.1 d ∙ sym (kept v d)
          | inr none ↦ nowhere v d none ∙ sym (kept v d)
        ]
      ]
    where
      here : process_of (processes_of posted' placed' (with_place t slot place)) w ≡
          Some (f (live_process posted placed slot w (place_at t.slots slot)))
      here =
          process_of-live posted' placed' (with_place t slot place) sound_after slot w
          (number_at-set_same t.slots slot place within ∙ stays)
          ∙ ap (λ p. Some (live_process posted' placed' slot w p))
          (get_or-set_same t.slots slot place empty_place within)
          ∙ ap Some this

      changed : process_of (change_process w f (processes_of posted placed t)) w ≡
          Some (f (live_process posted placed slot w (place_at t.slots slot)))
      changed =
          process_of-change_same w f keeps (processes_of posted placed t)
          (live_process posted placed slot w (place_at t.slots slot))
          (process_of-live posted placed t sound slot w stands)

      kept : (v : ℕ) → v ≢ w
          → process_of (change_process w f (processes_of posted placed t)) v ≡
          process_of (processes_of posted placed t) v
      kept v d = process_of-change_other w f keeps (processes_of posted placed t) v d

      there : (k : ℕ) → number_at t.slots k ≡ Some v → v ≢ w
          → process_of (processes_of posted' placed' (with_place t slot place)) v ≡
          process_of (processes_of posted placed t) v
      there k e d =
          let aside : k ≢ slot = λ n. d (let g : Some v ≡ Some w = sym e ∙ ap (number_at t.slots) n ∙ stands in cc) in
          process_of-live posted' placed' (with_place t slot place) sound_after k v
          (number_at-set_other t.slots slot k place aside ∙ e)
          ∙ ap (λ p. Some (live_process posted' placed' k v p))
          (get_or-set_other t.slots slot k place empty_place aside)
          ∙ ap Some (others k v (place_at t.slots k) aside)
          ∙ sym (process_of-live posted placed t sound k v e)

      nowhere : (v : ℕ) → v ≢ w → IsInNone t.slots v
          → process_of (processes_of posted' placed' (with_place t slot place)) v ≡
          process_of (processes_of posted placed t) v
      nowhere v d none =
          process_of-aside posted' placed' (with_place t slot place) sound_after v still
          ∙ sym (process_of-aside posted placed t sound v none)
        where
          still : IsInNone (slice_set t.slots slot place) v
          still k e =
              elim (cases_eq k slot) [
                | inl n ↦ d (let g : Some v ≡ Some w = sym e ∙ ap (number_at (slice_set t.slots slot place)) n
                    ∙ number_at-set_same t.slots slot place within ∙ stays in cc)
                | inr o ↦ none k (sym (number_at-set_other t.slots slot k place o) ∙ e)
              ]

  pub processes-change : processes_of posted' placed' (with_place t slot place) ≡
      change_process w f (processes_of posted placed t)
  processes-change =
      same_processes 0 t.next 0 t.next (processes_of posted' placed' (with_place t slot place))
      (change_process w f (processes_of posted placed t))
      (rising-processes posted' placed' (with_place t slot place) sound_after)
      (rising-change_process w f keeps 0 t.next (processes_of posted placed t)
      (rising-processes posted placed t sound)) finds

-- Each change of the table, of a process that is alive.
module _ (posted : ℕ → ℕ → Call) (placed : ℕ → List PlacedModule) (t : Table) (sound : IsSound t) (slot w : ℕ)
    (stands : number_at t.slots slot ≡ Some w) where
  pub processes-with_handles : (handles : List Handle)
      → processes_of posted placed (with_handles t slot handles) ≡
      change_process w (λ p. record p { handles = handles }) (processes_of posted placed t)
  processes-with_handles handles =
      processes-change posted posted placed placed t sound slot w stands
      (record (place_at t.slots slot) { handles = handles }) stands
      (λ p. record p { handles = handles }) (λ p. refl) refl
      (λ k v p d. refl)

  pub processes-with_own : (own : Own)
      → processes_of posted placed (with_own t slot own) ≡
      change_process w (λ p. record p { own = own }) (processes_of posted placed t)
  processes-with_own own =
      processes-change posted posted placed placed t sound slot w stands
      (record (place_at t.slots slot) { own = own }) stands (λ p. record p { own = own }) (λ p. refl) refl
      (λ k v p d. refl)

  -- another count of a thread
  pub processes-with_count : (f : ℕ → ℕ) (thread old : ℕ) → count_at t.slots slot thread ≡ Some old
      → processes_of posted placed (with_count t slot thread (f old)) ≡
      change_process w (λ p. record p {
        threads = change_thread thread (λ x. record x { suspended = f x.suspended })
            p.threads;
      })
      (processes_of posted placed t)
  processes-with_count f thread old counted =
      let place = place_at t.slots slot in
      let count : slice_get place.suspended thread ≡ Some old = rw stands at counted in
      processes-change posted posted placed placed t sound slot w stands
      (record place { suspended = slice_set place.suspended thread (f old) }) stands
      (λ p. record p { threads = change_thread thread (λ x. record x { suspended = f x.suspended }) p.threads })
      (λ p. refl)
      (ap (λ threads. record (live_process posted placed slot w place) { threads = threads })
      (sym (count-threads f (posted slot) place.suspended thread old count)))
      (λ k v p d. refl)

-- The same of what is known beside the table: nothing but that of one process is changed.
module _ (t : Table) (sound : IsSound t) (slot w : ℕ) (stands : number_at t.slots slot ≡ Some w) where
  unchanged : with_place t slot (place_at t.slots slot) ≡ t
  unchanged = ap (λ (slots : List Place). record t { slots = slots }) (set-get_or t.slots slot empty_place)

  -- another posted call of a thread
  pub processes-with_posted : (posted posted' : ℕ → ℕ → Call) (placed : ℕ → List PlacedModule) (thread : ℕ)
      (call : Call)
      → posted' slot thread ≡ call → ((u : ℕ) → u ≢ thread → posted' slot u ≡ posted slot u)
      → ((k u : ℕ) → k ≢ slot → posted' k u ≡ posted k u)
      → processes_of posted' placed t ≡
      change_process w (λ p. record p { threads = change_thread thread (λ x. record x { posted = call }) p.threads })
      (processes_of posted placed t)
  processes-with_posted posted posted' placed thread call this others aside =
      ap (processes_of posted' placed) (sym unchanged)
      ∙ processes-change posted posted' placed placed t sound slot w stands (place_at t.slots slot) stands
      (λ p. record p { threads = change_thread thread (λ x. record x { posted = call }) p.threads }) (λ p. refl)
      (ap (λ threads. record (live_process posted placed slot w (place_at t.slots slot)) { threads = threads })
      (sym (posted-threads (posted slot) (posted' slot) thread call this others
      (place_at t.slots slot).suspended)))
      (λ k v p d. ap (λ threads. record (live_process posted placed k v p) { threads = threads })
      (same_threads (posted k) (posted' k) (λ u. aside k u d) 0 p.suspended))

  -- other modules
  pub processes-with_placed : (posted : ℕ → ℕ → Call) (placed placed' : ℕ → List PlacedModule)
      (f : List PlacedModule → List PlacedModule) → placed' slot ≡ f (placed slot)
      → ((k : ℕ) → k ≢ slot → placed' k ≡ placed k)
      → processes_of posted placed' t ≡
      change_process w (λ p. record p { placed = f p.placed }) (processes_of posted placed t)
  processes-with_placed posted placed placed' f this others =
      ap (processes_of posted placed') (sym unchanged)
      ∙ processes-change posted posted placed placed' t sound slot w stands (place_at t.slots slot) stands
      (λ p. record p { placed = f p.placed }) (λ p. refl)
      (ap (λ modules. record (live_process posted placed slot w (place_at t.slots slot)) { placed = modules }) this)
      (λ k v p d. ap (λ modules. record (live_process posted placed k v p) { placed = modules }) (others k d))
