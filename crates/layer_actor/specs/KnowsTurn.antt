-- A main thread goes on to know itself through each turn of its own: the image is its process's, which runs the program
-- that the image names.
use Rattle.std.proofs.Common.{◌≡◌, inl, inr, ℕ, true, List, Option, MatchOption, length, All, IsTrue}
use Rattle.std.proofs.Common.{refl, sym, ap, ◌∙◌, subst}
use Rattle.w32_base.specs.Part.{KeepsLengths}
use Rattle.w32_base.specs.declared.call.Call.{Call}
use Rattle.w32_base.specs.declared.call.Reply.{Reply}
use Rattle.w32_base.specs.declared.event.Event.{Event}
use Rattle.w32_base.specs.declared.own.Own.{Own}
use Rattle.w32_base.specs.declared.part.After.{After}
use Rattle.w32_base.specs.declared.setup.Setup.{Setup}
use Rattle.script_spec.specs.declared.script.Script.{Script}
use Rattle.vm_spec.specs.Block.{block_image}
use Rattle.vm_spec.specs.Image.{image_of, with_image, program_of}
use Rattle.vm_spec.specs.SizeLaws.{writes_register}
use Rattle.win32_spec.specs.Call.{CallStep}
use Rattle.win32_spec.specs.CallEffects.{by_bool, by_option}
use Rattle.win32_spec.specs.FormedLaws.{live_found}
use Rattle.win32_spec.specs.Lookup.{process_of, is_live, memory_of, memory_by, change_process, change_thread, with_own}
use Rattle.win32_spec.specs.Lookup.{with_posted}
use Rattle.win32_spec.specs.LookupLaws.{process_of-change_same}
use Rattle.win32_spec.specs.MemoryCalls.{instructions_of, program_no_of, program_no_by, code_of, RunStep}
use Rattle.win32_spec.specs.MemoryEffects.{HaveRegisters}
use Rattle.win32_spec.specs.PlaceEffects.{layer_of}
use Rattle.win32_spec.specs.State.{Win32State}
use Rattle.win32_spec.specs.WellFormed.{IsWellFormed}
use Rattle.layer_spec.specs.Moment.{Moment, Seen}
use Rattle.layer_spec.specs.Turns.{is_live_process}
use Rattle.world_spec.specs.Owes.{LivesOn, OwnTurn}
use Rattle.world_spec.specs.ProgramImages.{program-block}
use Rattle.world_spec.specs.ProgramTurns.{runs-turn}
use Rattle.world_spec.specs.Sound.{IsSoundMoment}
use Rattle.world_spec.specs.TurnLaws.{own_lives}
use Rattle.layer_actor.specs.declared.actor.MainThread.{MainThread}
use Rattle.layer_actor.specs.CallBytes.{call-bytes}
use Rattle.layer_actor.specs.Doing.{doing_posted, doing_after}
use Rattle.layer_actor.specs.DoingLaws.{doing_fair}
use Rattle.layer_actor.specs.LookClause.{IsMainOf}
use Rattle.layer_actor.specs.MainGoes.{main_posted, MainGoes}
use Rattle.layer_actor.specs.OwnProgram.{table-program}
use Rattle.layer_actor.specs.PostedBytes.{posted-bytes}

-- the program that the image of process w names
abbrev named_program : Win32State → ℕ → ℕ
named_program s w = program_of (image_of (memory_by s w))

-- what a process is after its thread has gone on
acted_process : (mid : Win32State) (w t : ℕ) (own : Own) (next : Call) → is_live_process mid w ≡ true
    → (is_live_process (with_posted (with_own mid w own) w t next) w ≡ true)
    × (memory_by (with_posted (with_own mid w own) w t next) w ≡ own)
acted_process mid w t own next live =
    let p = live_found (process_of mid.processes w) live in
    let after = process_of-change_same w
    (λ x. record x { threads = change_thread t (λ y. record y { posted = next }) x.threads })
    (λ x. refl) (change_process w (λ x. record x { own = own }) mid.processes) (record p.0 { own = own })
    (process_of-change_same w (λ x. record x { own = own }) (λ x. refl) mid.processes p.0 p.1) in
    (ap is_live after ∙ p.2, ap memory_of after)

-- a block of local instructions
block_named : (script : Script) → HaveRegisters script → (s : Win32State) (w : ℕ) (r : Reply) (mid : Win32State)
    → IsWellFormed script s → is_live_process s w ≡ true → RunStep script s w r mid
    → named_program mid w ≡ named_program s w
block_named script registers s w r mid formed live step =
    by_option (program_no_by s w) (λ e m. ap (λ n. named_program n w) m.1) (λ k e m.
    let p = live_found (process_of s.processes w) live in
    let layer = layer_of script s w k p.0 formed.formed p.1 p.2 (sym (ap program_no_of p.1) ∙ e) in
    let own : Own = with_image (memory_by s w) (block_image (code_of script k) (image_of (memory_by s w))) in
    let code : code_of script k ≡ layer.program.code = ap instructions_of layer.listed in
    let long : length (memory_by s w).dat ≡ 64 =
    ap (λ o. let x : Own = memory_of o in length x.dat) p.1 ∙ layer.sizes.dat_size in
    ap (λ n. named_program n w) m.1
    ∙ (ap (λ o. program_of (image_of (memory_of o)))
    (process_of-change_same w (λ x. record x { own = own }) (λ x. refl) s.processes p.0 p.1)
    ∙ program-block (code_of script k) (image_of (memory_by s w))
    (subst (λ is. All (λ i. IsTrue (writes_register i)) is) (sym code) (registers k layer.program layer.listed))
    long)) step

main_lengths : (p q : MainThread) (o n : Own) (s : Setup) (r : Reply) (a : After) → MainGoes p o s r q n a
    → KeepsLengths o n
main_lengths p q o n s r a went = subst (KeepsLengths o) (sym went.own) (doing_fair s p.who p.doing r o).lengths

module _ {A : Type 0} (script : Script) (registers : HaveRegisters script) (past : List (Seen A)) (now : Moment A)
    (slot t : ℕ) (x : MainThread) (called : Call) (reply : Reply) (given : Option Event) (next : Option MainThread)
    (new : Win32State) (sound : IsSoundMoment script past now)
    (turn : OwnTurn main_posted MainGoes script now.win32 slot t x called reply given next new) where
  abbrev w : ℕ
  w = turn.process.number

  -- after its call the own image names the program that it named
  mid_named : is_live_process turn.mid w ≡ true → named_program turn.mid w ≡ named_program now.win32 w
  mid_named live =
      let step : CallStep script now.win32 w t (doing_posted x.doing) reply turn.mid =
      subst (λ c. CallStep script now.win32 w t c reply turn.mid) turn.own_call turn.posted.step in
      elim (posted-bytes x.doing) [
        | inl leaves ↦ ap (λ o. program_of (image_of o))
            (call-bytes script now.win32 w t reply turn.mid sound.formed live (doing_posted x.doing) leaves step)
        | inr runs ↦ block_named script registers now.win32 w reply turn.mid sound.formed
            (own_lives main_posted MainGoes script past now slot t x called reply given next new sound turn)
            (subst (λ c. CallStep script now.win32 w t c reply turn.mid) runs step)
      ]

  abbrev Knows : Option MainThread → Type 0
  Knows o = MatchOption o (Unit {0}) (λ y. IsMainOf y.who new w)

  lives : IsMainOf x.who now.win32 w → is_live_process turn.mid w ≡ true
      → LivesOn main_posted MainGoes script turn.mid w t x reply given next new → Knows next
  lives h live on =
      let acted = acted_process turn.mid w t on.own on.posts live in
      let bytes : memory_by new w ≡ (doing_after script.setup x.who x.doing (memory_by turn.mid w) reply).own =
      ap (λ s. memory_by s w) on.after ∙ (acted.1 ∙ on.went.own) in
      let image : named_program new w ≡ named_program now.win32 w =
      ap (λ o. program_of (image_of o)) bytes
      ∙ (table-program script.setup x.who x.doing (memory_by turn.mid w) reply ∙ mid_named live) in
      subst Knows (sym on.here) (record {
        image = ap (λ (y : MainThread). y.who.image) on.went.part ∙ h.image;
        runs = runs-turn main_posted MainGoes main_lengths script registers past now slot t x called reply given next
            new sound turn (ap (λ s. is_live_process s w) on.after ∙ acted.0) image h.runs;
      })

  -- The part that it is after the turn, if its process lives on, knows itself.
  pub knows-turn : IsMainOf x.who now.win32 w → MatchOption next (Unit {0}) (λ y. IsMainOf y.who new w)
  knows-turn h =
      by_bool (is_live_process turn.mid w) (lives h) (λ dead gone. subst Knows (sym gone.2) tt) turn.goes_on
