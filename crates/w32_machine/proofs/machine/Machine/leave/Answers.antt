use Rattle.w32_machine.proofs.Leaves.{occupied, room, kept_there, stays-sound, stays-done, goes-sound, goes-done}
use Rattle.w32_machine.proofs.machine.Machine.leave.Goals as goal

pub end-requires-clause-occupied : goal.end-requires-clause-occupied
end-requires-clause-occupied c =
    occupied c.self.inside c.self.invariant c.args.self.now c.self.view_is c.args.slot c.args.w c.args.code
    c.requires.stands c.requires.closed

pub end-requires-clause-room : goal.end-requires-clause-room
end-requires-clause-room c =
    room c.self.inside c.self.invariant c.args.self.now c.self.view_is c.args.slot c.args.w c.args.code
    c.requires.stands c.requires.closed

pub forget-requires : goal.forget-requires
forget-requires c =
    kept_there c.self.inside c.self.invariant c.args.self.now c.self.view_is c.args.slot c.args.w c.args.code
    c.requires.stands c.requires.closed c.end.new.self c.end.ensures

pub invariant_of-self : goal.invariant_of-self
invariant_of-self c =
    goes-sound c.self.inside c.self.invariant c.args.self.now c.self.view_is c.args.slot c.args.w c.args.code
    c.requires.stands c.requires.closed c.end.new.self c.end.ensures c.abandon.new.objects c.abandon.ensures.left
    c.abandon.ensures.spare c.has_object_of.result c.has_object_of.ensures c.if-not-has_object_of.true
    c.forget.new.self c.forget.ensures.next c.forget.ensures.slots c.forget.ensures.kept

pub invariant_of-self-else-not-has_object_of : goal.invariant_of-self-else-not-has_object_of
invariant_of-self-else-not-has_object_of c =
    stays-sound c.self.inside c.self.invariant c.args.self.now c.self.view_is c.args.slot c.args.w c.args.code
    c.requires.stands c.requires.closed c.end.new.self c.end.ensures c.abandon.new.objects c.abandon.ensures.left
    c.abandon.ensures.spare c.has_object_of.result c.has_object_of.ensures c.if-not-has_object_of.false

pub returns-then-not-has_object_of-clause-ended : goal.returns-then-not-has_object_of-clause-ended
returns-then-not-has_object_of-clause-ended c =
    goes-done c.self.inside c.self.invariant c.args.self.now c.self.view_is c.args.slot c.args.w c.args.code
    c.requires.stands c.requires.closed c.end.new.self c.end.ensures c.abandon.new.objects c.abandon.ensures.left
    c.abandon.ensures.spare c.has_object_of.result c.has_object_of.ensures c.if-not-has_object_of.true
    c.forget.new.self c.forget.ensures.next c.forget.ensures.slots c.forget.ensures.kept

pub returns-else-not-has_object_of-clause-ended : goal.returns-else-not-has_object_of-clause-ended
returns-else-not-has_object_of-clause-ended c =
    stays-done c.self.inside c.self.invariant c.args.self.now c.self.view_is c.args.slot c.args.w c.args.code
    c.requires.stands c.requires.closed c.end.new.self c.end.ensures c.abandon.new.objects c.abandon.ensures.left
    c.abandon.ensures.spare c.has_object_of.result c.has_object_of.ensures c.if-not-has_object_of.false
