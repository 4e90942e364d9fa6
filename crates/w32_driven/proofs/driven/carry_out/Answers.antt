use Rattle.std.proofs.Common.{refl}
use Rattle.w32_driven.proofs.CallNumbers.{call-numbers}
use Rattle.w32_driven.proofs.Following.{all-same}
use Rattle.w32_driven.proofs.Made.{keeps-processes}
use Rattle.w32_driven.proofs.PartCalls.{terminate-slot, exit-slot}
use Rattle.w32_driven.proofs.driven.carry_out.Goals as goal

pub end_in-requires-clause-ends : goal.end_in-requires-clause-ends
end_in-requires-clause-ends g c =
    terminate-slot c.args.machine.now.script c.args.machine.now.win32 c.args.by.now c.args.call.now _ _ _ _
    c.in-Terminate.is c.in-Some.ensures.named c.in-Some.ensures.slot

pub end_in-requires-in-ExitSelf-clause-ends : goal.end_in-requires-in-ExitSelf-clause-ends
end_in-requires-in-ExitSelf-clause-ends g c =
    exit-slot c.args.machine.now.script c.args.machine.now.win32 c.requires.formed.formed c.args.by.now
    c.requires.caller c.args.call.now _ c.in-ExitSelf.is

pub returns-in_default : goal.returns-in_default
returns-in_default g c = record {
  step = c.carry_out-in_default.ensures.step;
  script = c.carry_out-in_default.ensures.script;
  follow = all-same g.P.Part.posted_of g.P.Part.goes g.P.Whole.opening g.P.Whole.slot_of g.P.Whole.thread_of
      c.args.machine.now.win32
      c.carry_out-in_default.new.self.win32 c.args.parts.now.items c.args.parts.now.items
      (call-numbers c.args.machine.now.win32 c.carry_out-in_default.new.self.win32 c.args.machine.now.script
      c.args.by.now.process c.args.by.now.thread c.args.call.now c.carry_out-in_default.result
      (keeps-processes c.args.call.now c.in_default.not-Create c.in_default.not-Terminate c.in_default.not-ExitSelf)
      c.carry_out-in_default.ensures.step)
      (λ k t. refl);
  places = c.requires.places;
}
