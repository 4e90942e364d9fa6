-- A change that a process makes of itself: its own image may change, and all else that is shown stays. So is the turn
-- in which a call has its result, and a block of local instructions.
use Rattle.std.proofs.Common.{◌≡◌, ◌≢◌, inl, inr, ℕ, true, Some, refl, sym, ap, ◌∙◌, subst}
use Rattle.std.proofs.lemmas.Bool.{cases_eq}
use Rattle.w32_base.specs.Part.{KeepsImage}
use Rattle.w32_base.specs.declared.call.Call.{Call}
use Rattle.w32_base.specs.declared.call.Reply.{Reply}
use Rattle.w32_base.specs.declared.own.Own.{Own}
use Rattle.script_spec.specs.declared.script.Script.{Script}
use Rattle.vm_spec.specs.Block.{block_image}
use Rattle.vm_spec.specs.Image.{image_of, with_image}
use Rattle.win32_spec.specs.CallEffects.{by_option}
use Rattle.win32_spec.specs.FormedLaws.{live_found, found_live}
use Rattle.win32_spec.specs.Handles.{handle_of}
use Rattle.win32_spec.specs.Lookup.{is_alive, process_of, is_live, thread_in, change_thread, memory_of, memory_by}
use Rattle.win32_spec.specs.Lookup.{terminal_in, with_process, with_own, with_posted}
use Rattle.win32_spec.specs.LookupLaws.{changed_process, process_of-change_same, process_of-change_other}
use Rattle.win32_spec.specs.MemoryCalls.{program_no_by, code_of, RunStep}
use Rattle.win32_spec.specs.State.{Process, Win32State}
use Rattle.layer_spec.specs.Turns.{is_live_process}
use Rattle.layer_spec.specs.Words.{word_in}
use Rattle.roster.specs.Turns.{roster_handle}
use Rattle.world_spec.specs.Calm.{IsCalm}
use Rattle.world_spec.specs.CalmSteps.{same_suspended}
use Rattle.world_spec.specs.Facts.{suspended_by}

-- a process before and after, but for its image
pub record KeepsOthers (p q : Process) : Type 0 where
  pub cyg : q.own.cyg ≡ p.own.cyg
  pub placed : q.placed ≡ p.placed
  pub suspended : (t : ℕ) → suspended_by (thread_in q.threads t) ≡ suspended_by (thread_in p.threads t)
  pub roster : handle_of q.handles roster_handle ≡ handle_of p.handles roster_handle
  pub handles : (h names : ℕ) → handle_of p.handles h ≡ Some names → handle_of q.handles h ≡ Some names

-- what is kept of process v in a change that process w makes of itself
pub record KeepsBut (w v : ℕ) (p q : Process) : Type 0 where
  pub image : v ≢ w → KeepsImage p.own q.own
  pub others : KeepsOthers p q

-- each process that is alive after it was alive before it, and shows the same but for the image of process w
abbrev pub AreOwnChanges : ℕ → (s new : Win32State) → Type 0
AreOwnChanges w s new = (v : ℕ) (q : Process) → process_of new.processes v ≡ Some q → is_alive q.life ≡ true
    → (p : Process) × (process_of s.processes v ≡ Some p) × (is_alive p.life ≡ true) × KeepsBut w v p q

-- The state before and after. Nobody ends.
pub record IsOwnChange (w : ℕ) (s new : Win32State) : Type 0 where
  pub words : (i : ℕ) → word_in new i ≡ word_in s i
  pub terminal : terminal_in new.objects ≡ terminal_in s.objects
  pub processes : AreOwnChanges w s new
  pub lives : (v : ℕ) → is_live_process s v ≡ true → is_live_process new v ≡ true

keeps_others : (p : Process) → KeepsOthers p p
keeps_others p =
    record { cyg = refl; placed = refl; suspended = λ t. refl; roster = refl; handles = λ h names e. e }

keeps_image : (own : Own) → KeepsImage own own
keeps_image own = record { dat = refl; heap = refl; stack = refl }

then_keeps : (w v : ℕ) (p q r : Process) → KeepsBut w v p q → KeepsBut w v q r → KeepsBut w v p r
then_keeps w v p q r a b = record {
  image = λ d. record {
    dat = (b.image d).dat ∙ (a.image d).dat;
    heap = (b.image d).heap ∙ (a.image d).heap;
    stack = (b.image d).stack ∙ (a.image d).stack;
  };
  others = record {
    cyg = b.others.cyg ∙ a.others.cyg;
    placed = b.others.placed ∙ a.others.placed;
    suspended = λ t. b.others.suspended t ∙ a.others.suspended t;
    roster = b.others.roster ∙ a.others.roster;
    handles = λ h names e. b.others.handles h names (a.others.handles h names e);
  };
}

-- One such change after another is one.
pub own-then : (w : ℕ) (s mid new : Win32State) → IsOwnChange w s mid → IsOwnChange w mid new → IsOwnChange w s new
own-then w s mid new a b = record {
  words = λ i. b.words i ∙ a.words i;
  terminal = b.terminal ∙ a.terminal;
  processes = λ v q e alive.
      let x = b.processes v q e alive in
      let y = a.processes v x.0 x.1 x.2 in (y.0, y.1, y.2, then_keeps w v y.0 x.0 q y.3 x.3);
  lives = λ v live. b.lives v (a.lives v live);
}

-- A calm change is one, whosever it is.
pub own-calm : (w : ℕ) (s new : Win32State) → IsCalm s new
    → ((v : ℕ) → is_live_process s v ≡ true → is_live_process new v ≡ true) → IsOwnChange w s new
own-calm w s new calm lives = record {
  words = calm.words;
  terminal = calm.terminal;
  processes = λ v q e alive.
      let x = calm.processes v q e alive in (
        x.0,
        x.1,
        x.2,
        record {
          image = λ d. x.3.image;
          others = record {
            cyg = x.3.cyg;
            placed = x.3.placed;
            suspended = x.3.suspended;
            roster = x.3.roster;
            handles = x.3.handles;
          };
        },
      );
  lives = lives;
}

-- So is a change of process w alone that keeps all but its image.
pub own-process : (s : Win32State) (w : ℕ) (f : Process → Process) → ((p : Process) → (f p).number ≡ p.number)
    → ((p : Process) → (f p).life ≡ p.life)
    → ((p : Process) → process_of s.processes w ≡ Some p → KeepsOthers p (f p)) → IsOwnChange w s (with_process s w f)
own-process s w f number life keeps = record {
  words = λ i. refl;
  terminal = refl;
  processes = λ v q e alive. elim (changed_process w f number s.processes v q e) [
    | inl other ↦
        (q, other.1, alive, record { image = λ d. keeps_image q.own; others = keeps_others q })
    | inr this ↦
        let p = this.1 in (
          p,
          ap (process_of s.processes) this.0 ∙ this.2,
          ap is_alive (sym (life p)) ∙ (ap (λ (x : Process). is_alive x.life) (sym this.3) ∙ alive),
          record {
            image = λ d. absurd (d this.0);
            others = subst (KeepsOthers p) (sym this.3) (keeps p this.2);
          },
        )
  ];
  lives = λ v live. elim (cases_eq v w) [
    | inl n ↦
        let r = live_found (process_of s.processes w) (ap (is_live_process s) (sym n) ∙ live) in
        ap (is_live_process (with_process s w f)) n
        ∙ found_live (process_of (with_process s w f).processes w) (f r.0)
        (process_of-change_same w f number s.processes r.0 r.1) (ap is_alive (life r.0) ∙ r.2)
    | inr d ↦ ap is_live (process_of-change_other w f number s.processes v d) ∙ live
  ];
}

-- the bytes of process w, where the cygheap stays
pub own-bytes : (s : Win32State) (w : ℕ) (own : Own) → own.cyg ≡ (memory_by s w).cyg
    → IsOwnChange w s (with_own s w own)
own-bytes s w own cyg =
    own-process s w (λ p. record p { own = own }) (λ p. refl) (λ p. refl) (λ p found. record {
      cyg = cyg ∙ ap (λ o. let x : Own = memory_of o in x.cyg) found;
      placed = refl;
      suspended = λ t. refl;
      roster = refl;
      handles = λ h names e. e;
    })

-- what thread t of process w posts next
own-posts : (s : Win32State) (w t : ℕ) (next : Call) → IsOwnChange w s (with_posted s w t next)
own-posts s w t next =
    own-process s w (λ p. record p { threads = change_thread t (λ x. record x { posted = next }) p.threads })
    (λ p. refl) (λ p. refl) (λ p found. record {
      cyg = refl;
      placed = refl;
      suspended = λ u. same_suspended t next p.threads u;
      roster = refl;
      handles = λ h names e. e;
    })

-- What a thread does after its call, where the cygheap of its process stays.
pub own-acts : (mid : Win32State) (w t : ℕ) (own : Own) (next : Call) → own.cyg ≡ (memory_by mid w).cyg
    → IsOwnChange w mid (with_posted (with_own mid w own) w t next)
own-acts mid w t own next cyg =
    own-then w mid (with_own mid w own) (with_posted (with_own mid w own) w t next) (own-bytes mid w own cyg)
    (own-posts (with_own mid w own) w t next)

-- `run`.
pub own-runs : (script : Script) (s : Win32State) (w : ℕ) (r : Reply) (mid : Win32State) → RunStep script s w r mid
    → IsOwnChange w s mid
own-runs script s w r mid step =
    by_option (program_no_by s w) (λ none m. subst (IsOwnChange w s) (sym m.1) (own-same s))
    (λ n found m. subst (IsOwnChange w s) (sym m.1)
    (own-bytes s w (with_image (memory_by s w) (block_image (code_of script n) (image_of (memory_by s w)))) refl)) step
  where
    own-same : (s : Win32State) → IsOwnChange w s s
    own-same s = record {
      words = λ i. refl;
      terminal = refl;
      processes = λ v q e alive. (q, e, alive, record { image = λ d. keeps_image q.own; others = keeps_others q });
      lives = λ v live. live;
    }
