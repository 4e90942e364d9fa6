-- Changes that show nothing, and that a thread makes of its own process: they are calm but that suspend counts of the
-- acting process may change, and that a handle above 8 may go in a turn of the thread to which it was answered. A
-- resume of an own thread makes such a change, and the closing of an own handle.
use Rattle.std.specs.Prelude.{◌≡◌, ◌⊎◌, ℕ, ◌<◌, true, List, Some}
use Rattle.std.proofs.Common.{inl, inr, ◌∙◌}
use Rattle.w32_base.specs.Part.{KeepsImage}
use Rattle.w32_base.specs.declared.entry.Directive.{Directive}
use Rattle.w32_base.specs.declared.entry.Directive.TheVariants as directive
use Rattle.win32_spec.specs.Facts.{IsTurnOf, IsTurnOfThread}
use Rattle.win32_spec.specs.Handles.{handle_of}
use Rattle.win32_spec.specs.State.{Process, Win32State}
use Rattle.win32_spec.specs.Lookup.{is_alive, process_of, thread_in, terminal_in}
use Rattle.layer_spec.specs.Moment.{Seen}
use Rattle.layer_spec.specs.Turns.{is_live_process}
use Rattle.layer_spec.specs.Words.{word_in}
use Rattle.roster.specs.Turns.{roster_handle}
use Rattle.world_spec.specs.Calm.{CalmProcess, AreCalm, IsCalm}
use Rattle.world_spec.specs.Facts.{suspended_by}
use Rattle.world_spec.specs.Made.{opener_of}

module _ {A : Type 0} (past : List (Seen A)) (s : Win32State) (d : Directive) where
  -- process v before and after such a change, by this directive
  pub record SteadyProcess (v : ℕ) (p q : Process) : Type 0 where
    pub image : KeepsImage p.own q.own
    pub cyg : q.own.cyg ≡ p.own.cyg
    pub placed : q.placed ≡ p.placed
    pub suspended : (t : ℕ) → (suspended_by (thread_in q.threads t) ≡ suspended_by (thread_in p.threads t))
        ⊎ IsTurnOf s d v
    pub roster : handle_of q.handles roster_handle ≡ handle_of p.handles roster_handle
    pub handles : (h names : ℕ) → handle_of p.handles h ≡ Some names
        → (handle_of q.handles h ≡ Some names) ⊎ ((8 < h) × IsTurnOfThread s d v (opener_of past v h))

  -- each process that is alive after it was alive before it, and shows the same
  abbrev pub AreSteady : Win32State → Type 0
  AreSteady new = (v : ℕ) (q : Process) → process_of new.processes v ≡ Some q → is_alive q.life ≡ true
      → (p : Process) × (process_of s.processes v ≡ Some p) × (is_alive p.life ≡ true) × SteadyProcess v p q

  -- the state before and after
  pub record IsSteady (new : Win32State) : Type 0 where
    pub words : (i : ℕ) → word_in new i ≡ word_in s i
    pub terminal : terminal_in new.objects ≡ terminal_in s.objects
    pub processes : AreSteady new

  -- What is calm is steady.
  pub steady_process : (v : ℕ) (p q : Process) → CalmProcess p q → SteadyProcess v p q
  steady_process v p q calm = record {
    image = calm.image;
    cyg = calm.cyg;
    placed = calm.placed;
    suspended = λ t. inl (calm.suspended t);
    roster = calm.roster;
    handles = λ h names e. inl (calm.handles h names e);
  }

  pub are_steady : (new : Win32State) → AreCalm s new → AreSteady new
  are_steady new calm v q f alive =
      let at = calm v q f alive in (at.0, at.1, at.2, steady_process v at.0 q at.3)

  pub calm-steady : (new : Win32State) → IsCalm s new → IsSteady new
  calm-steady new calm =
      record { words = calm.words; terminal = calm.terminal; processes = are_steady new calm.processes }

  -- A calm change after a steady one is steady.
  pub steady-then : (mid new : Win32State) → IsSteady mid → IsCalm mid new → IsSteady new
  steady-then mid new a b = record {
    words = λ i. b.words i ∙ a.words i;
    terminal = b.terminal ∙ a.terminal;
    processes = λ v q e alive.
        let x = b.processes v q e alive in
        let y = a.processes v x.0 x.1 x.2 in (y.0, y.1, y.2, then_calm v y.0 x.0 q y.3 x.3);
  }
    where
      then_calm : (v : ℕ) (p m q : Process) → SteadyProcess v p m → CalmProcess m q → SteadyProcess v p q
      then_calm v p m q c k = record {
        image = record {
          dat = k.image.dat ∙ c.image.dat;
          heap = k.image.heap ∙ c.image.heap;
          stack = k.image.stack ∙ c.image.stack;
        };
        cyg = k.cyg ∙ c.cyg;
        placed = k.placed ∙ c.placed;
        suspended = λ t. elim (c.suspended t) [ inl e ↦ inl (k.suspended t ∙ e) | inr acts ↦ inr acts ];
        roster = k.roster ∙ c.roster;
        handles = λ h names e. elim (c.handles h names e) [ inl f ↦ inl (k.handles h names f) | inr acts ↦ inr acts ];
      }

-- What a call comes to that makes a steady change, in a turn of thread t of the slot: everybody lives on.
pub record MakesSteady {A : Type 0} (past : List (Seen A)) (s : Win32State) (slot t : ℕ) (new : Win32State)
    : Type 0 where
  pub steady : IsSteady past s (directive.Turn slot t) new
  pub lives : (v : ℕ) → is_live_process s v ≡ true → is_live_process new v ≡ true
