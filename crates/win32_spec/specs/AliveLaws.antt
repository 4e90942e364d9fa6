-- What stays of every process that lives on, the caller's too, and what a process is made with.
use Rattle.std.proofs.Common.{◌≡◌, inl, inr, ℕ, ◌+◌, Bool, true, false, if◌then◌else◌, nat_eq, List, Some, None, refl}
use Rattle.std.proofs.Common.{sym, ap, ◌∙◌, subst}
use Rattle.std.proofs.lemmas.Bool.{cases_eq}
use Rattle.w32_base.specs.declared.call.Call.{Call}
use Rattle.script_spec.specs.declared.script.Script.{Script}
use Rattle.win32_spec.specs.Handles.{Handle, with_handle, without_handle, listed_handles}
use Rattle.win32_spec.specs.State.{Thread, Process, Win32State}
use Rattle.win32_spec.specs.Lookup.{is_alive, process_of, is_live, thread_in, change_process, add_process}
use Rattle.win32_spec.specs.Ends.{held_objects, objects_left_by, ended_process}
use Rattle.win32_spec.specs.Making.{opening_call, new_thread, new_threads, new_process}
use Rattle.win32_spec.specs.Named.{handles_by}
use Rattle.win32_spec.specs.WellFormed.{IsWellFormed}
use Rattle.win32_spec.specs.LookupLaws.{same_some, not_none, changed_process, process_of-add_kept, process_of-add_new}
use Rattle.win32_spec.specs.LookupLaws.{process_of-add_other, rising-change_process}
use Rattle.win32_spec.specs.HeldLaws.{kept_process}
use Rattle.win32_spec.specs.Tame.{posted_by, PostTheSame, ProcessBecomes}
use Rattle.win32_spec.specs.TameLaws.{both_back, both_forth}
use Rattle.win32_spec.specs.Effects.{MayWrite, CallEffect, Changes, Opens, Adds, AddsPipe, Makes, Closes, Ends}

-- the same process, with the same posted calls
pub record StaysAlive (p q : Process) : Type 0 where
  pub number : q.number ≡ p.number
  pub slot : q.slot ≡ p.slot
  pub program : q.program ≡ p.program
  pub life : q.life ≡ p.life
  pub posted : PostTheSame p.threads q.threads

stays_same : (p q : Process) → q ≡ p → StaysAlive p q
stays_same p q e = subst (λ x. StaysAlive p x) (sym e)
    (record { number = refl; slot = refl; program = refl; life = refl; posted = λ u. refl })

-- where handles of one process are others
handles_alive : (ps : List Process) (w : ℕ) (hs : List Handle) (v : ℕ) (p q : Process) → process_of ps v ≡ Some p
    → process_of (change_process w (λ x. record x { handles = hs }) ps) v ≡ Some q → StaysAlive p q
handles_alive ps w hs v p q e f = elim (changed_process w (λ x. record x { handles = hs }) (λ x. refl) ps v q f) [
  | inl other ↦ stays_same p q (same_some (process_of ps v) q p other.1 e)
  | inr this ↦
      let g : this.1 ≡ p = same_some (process_of ps v) this.1 p (ap (process_of ps) this.0 ∙ this.2) e in
      subst (λ x. StaysAlive p x) (ap (λ (x : Process). record x { handles = hs }) (sym g) ∙ sym this.3)
      (record { number = refl; slot = refl; program = refl; life = refl; posted = λ u. refl })
]

-- each thread of a new process has posted the opening call
opening_posted : (u : ℕ) (x : Thread) → Some x.posted ≡ posted_by (thread_in (new_threads 1) u)
    → x.posted ≡ opening_call
opening_posted u x e = by_tests (nat_eq 0 u) (nat_eq 1 u) (nat_eq 2 u) e
  where
    by_tests : (a b c : Bool) → Some x.posted ≡ posted_by (if a then Some (new_thread 0 1) else
        if b then Some (new_thread 1 1) else if c then Some (new_thread 2 1) else None) → x.posted ≡ opening_call
    by_tests true b c f = cc
    by_tests false true c f = cc
    by_tests false false true f = cc
    by_tests false false false f = absurd (cc)

module _ (script : Script) (s : Win32State) (w t : ℕ) (c : Call) (new : Win32State) (h : IsWellFormed script s)
    (live : is_live (process_of s.processes w) ≡ true) (v : ℕ) (q : Process) (f : process_of new.processes v ≡ Some q)
  where
    pub alive-effect : (p : Process) → process_of s.processes v ≡ Some p → is_alive q.life ≡ true
        → CallEffect script s w t c new
        → StaysAlive p q
    alive-effect p e alive (Changes tame) =
        let r = both_forth (ProcessBecomes script (MayWrite s w c v) (v ≡ w) ⊥) (process_of s.processes v)
        (process_of new.processes v) p
        (tame.processes.process v) e in
        subst (λ x. StaysAlive p x) (same_some (process_of new.processes v) r.0 q r.1 f)
        (record {
          number = r.2.number;
          slot = r.2.slot;
          program = r.2.program;
          life = r.2.life;
          posted =
              r.2.posted (λ n. n.1);
        })
    alive-effect p e alive (Opens names listed room answer r handled) =
        handles_alive s.processes w (with_handle (handles_by s w) handled.handle names) v p q e
        (subst (λ (n : Win32State). process_of n.processes v ≡ Some q) handled.after f)
    alive-effect p e alive (Adds x rule only room r added) =
        handles_alive s.processes w (with_handle (handles_by s w) added.handled.handle added.number) v p q e
        (subst (λ (n : Win32State). process_of n.processes v ≡ Some q) added.handled.after f)
    alive-effect p e alive (AddsPipe room r pipe) =
        handles_alive s.processes w
        (with_handle (with_handle (handles_by s w) pipe.read_end pipe.number) pipe.write_end (pipe.number + 1))
        v p q e (subst (λ (n : Win32State). process_of n.processes v ≡ Some q) pipe.after f)
    alive-effect p e alive (Makes slot program_no program list r listed lowest room made) =
        handles_alive (add_process (new_process s.next slot program_no program 1 (listed_handles (handles_by s w) list))
        s.processes) w
        (with_handle (handles_by s w) made.handled.handle made.number) v p q
        (process_of-add_kept (new_process s.next slot program_no program 1 (listed_handles (handles_by s w) list))
        s.processes v p e)
        (subst (λ (n : Win32State). process_of n.processes v ≡ Some q) made.handled.after f)
    alive-effect p e alive (Closes k after) =
        let rising = rising-change_process w (λ x. record x { handles = without_handle (handles_by s w) k }) (λ x. refl)
        1 s.next s.processes
        h.formed.processes in
        let held = held_objects
        (change_process w (λ x. record x { handles = without_handle (handles_by s w) k }) s.processes) s.objects in
        handles_alive s.processes w (without_handle (handles_by s w) k) v p q e
        (kept_process held 1 s.next
        (change_process w (λ x. record x { handles = without_handle (handles_by s w) k }) s.processes) v q rising
        (subst (λ (n : Win32State). process_of n.processes v ≡ Some q) after f)).0
    alive-effect p e alive (Ends u code ends after) =
        let rising = rising-change_process u (ended_process code) (λ x. refl) 1 s.next s.processes h.formed.processes in
        let held = held_objects (change_process u (ended_process code) s.processes) (objects_left_by u s.objects) in
        let kept = (kept_process held 1 s.next (change_process u (ended_process code) s.processes) v q rising
        (subst (λ (n : Win32State). process_of n.processes v ≡ Some q) after f)).0 in
        elim (changed_process u (ended_process code) (λ x. refl) s.processes v q kept) [
          | inl other ↦ stays_same p q (same_some (process_of s.processes v) q p other.1 e)
          | inr this ↦ absurd (let a : is_alive q.life ≡ false = ap (λ (x : Process). is_alive x.life) this.3 in cc)
        ]

    none_before : (hs : List Handle) → process_of s.processes v ≡ None
        → process_of (change_process w (λ x. record x { handles = hs }) s.processes) v ≡ Some q → ⊥
    none_before hs e g = elim (changed_process w (λ x. record x { handles = hs }) (λ x. refl) s.processes v q g) [
      | inl other ↦ not_none (process_of s.processes v) q other.1 e
      | inr this ↦ not_none (process_of s.processes v) this.1 (ap (process_of s.processes) this.0 ∙ this.2) e
    ]

    -- a process that wasn't listed and lives was made: each of its threads has posted the opening call
    pub made-effect : process_of s.processes v ≡ None → is_alive q.life ≡ true → CallEffect script s w t c new
        → (u : ℕ) (x : Thread) → thread_in q.threads u ≡ Some x → x.posted ≡ opening_call
    made-effect e alive (Changes tame) u x g =
        let r = both_back (ProcessBecomes script (MayWrite s w c v) (v ≡ w) ⊥) (process_of s.processes v)
        (process_of new.processes v) q
        (tame.processes.process v) f in absurd (not_none (process_of s.processes v) r.0 r.1 e)
    made-effect e alive (Opens names listed room answer r handled) u x g =
        absurd (none_before (with_handle (handles_by s w) handled.handle names) e
        (subst (λ (n : Win32State). process_of n.processes v ≡ Some q) handled.after f))
    made-effect e alive (Adds y rule only room r added) u x g =
        absurd (none_before (with_handle (handles_by s w) added.handled.handle added.number) e
        (subst (λ (n : Win32State). process_of n.processes v ≡ Some q) added.handled.after f))
    made-effect e alive (AddsPipe room r pipe) u x g =
        absurd (none_before (with_handle (with_handle (handles_by s w) pipe.read_end pipe.number) pipe.write_end
        (pipe.number + 1)) e
        (subst (λ (n : Win32State). process_of n.processes v ≡ Some q) pipe.after f))
    made-effect e alive (Makes slot program_no program list r listed lowest room made) u x g =
        let all = add_process (new_process s.next slot program_no program 1 (listed_handles (handles_by s w) list))
        s.processes in
        let g1 : process_of (change_process w
        (λ x. record x { handles = with_handle (handles_by s w) made.handled.handle made.number })
        (add_process (new_process s.next slot program_no program 1 (listed_handles (handles_by s w) list))
        s.processes)) v ≡ Some q =
        subst (λ (n : Win32State). process_of n.processes v ≡ Some q) made.handled.after f in
        elim (cases_eq v s.next) [
          | inr d ↦ absurd (elim
              (changed_process w (λ x. record x
              { handles = with_handle (handles_by s w) made.handled.handle made.number })
              (λ x. refl) (add_process
              (new_process s.next slot program_no program 1 (listed_handles (handles_by s w) list)) s.processes) v q
              g1) [
                | inl other ↦ not_none (process_of s.processes v) q
                    (sym (process_of-add_other
                    (new_process s.next slot program_no program 1 (listed_handles (handles_by s w) list)) s.processes
                    v d)
                    ∙ other.1) e
                | inr this ↦ not_none (process_of s.processes v) this.1
                    (sym (process_of-add_other
                    (new_process s.next slot program_no program 1 (listed_handles (handles_by s w) list)) s.processes
                    v d)
                    ∙ ap (process_of (add_process
                    (new_process s.next slot program_no program 1 (listed_handles (handles_by s w) list)) s.processes))
                    this.0 ∙ this.2) e
              ])
          | inl n ↦
              let found : process_of
              (add_process (new_process s.next slot program_no program 1 (listed_handles (handles_by s w) list))
              s.processes) v
              ≡ Some (new_process s.next slot program_no program 1 (listed_handles (handles_by s w) list)) =
              ap (process_of (add_process
              (new_process s.next slot program_no program 1 (listed_handles (handles_by s w) list)) s.processes)) n
              ∙ process_of-add_new (new_process s.next slot program_no program 1 (listed_handles (handles_by s w) list))
              s.processes
              (ap (process_of s.processes) (sym n) ∙ e) in
              let stays = handles_alive
              (add_process (new_process s.next slot program_no program 1 (listed_handles (handles_by s w) list))
              s.processes) w
              (with_handle (handles_by s w) made.handled.handle made.number) v
              (new_process s.next slot program_no program 1 (listed_handles (handles_by s w) list)) q found g1 in
              opening_posted u x (sym (ap posted_by g) ∙ stays.posted u)
        ]
    made-effect e alive (Closes k after) u x g =
        let rising = rising-change_process w (λ x. record x { handles = without_handle (handles_by s w) k }) (λ x. refl)
        1 s.next s.processes
        h.formed.processes in
        let held = held_objects
        (change_process w (λ x. record x { handles = without_handle (handles_by s w) k }) s.processes) s.objects in
        absurd (none_before (without_handle (handles_by s w) k) e
        (kept_process held 1 s.next
        (change_process w (λ x. record x { handles = without_handle (handles_by s w) k }) s.processes) v q rising
        (subst (λ (n : Win32State). process_of n.processes v ≡ Some q) after f)).0)
    made-effect e alive (Ends y code ends after) u x g =
        let rising = rising-change_process y (ended_process code) (λ x. refl) 1 s.next s.processes h.formed.processes in
        let held = held_objects (change_process y (ended_process code) s.processes) (objects_left_by y s.objects) in
        let kept = (kept_process held 1 s.next (change_process y (ended_process code) s.processes) v q rising
        (subst (λ (n : Win32State). process_of n.processes v ≡ Some q) after f)).0 in
        absurd (elim (changed_process y (ended_process code) (λ x. refl) s.processes v q kept) [
          | inl other ↦ not_none (process_of s.processes v) q other.1 e
          | inr this ↦ not_none (process_of s.processes v) this.1 (ap (process_of s.processes) this.0 ∙ this.2) e
        ])
