use Rattle.std.proofs.Common.{◌≡◌, length, refl, arith}
use Rattle.w32_base.specs.declared.call.Reply.TheVariants as reply
use Rattle.w32_machine.proofs.Copying.{few-enough, unread, unwritten, copied-over}
use Rattle.w32_machine.proofs.machine.Machine.copy_through.Goals as goal

pub returns-then-not-read-clause-copied : goal.returns-then-not-read-clause-copied
returns-then-not-read-clause-copied c =
    unread c.args.self.now.win32 c.args.self.now.win32 c.args.from.now.slot c.args.from.now.region c.args.from.now.place
    c.args.into.now.slot c.args.into.now.region c.args.into.now.place c.args.count reply.BadRange
    (few-enough c.args.count c.requires.few) c.args.buffer.now c.read.new.bytes c.requires.size c.if-not-read.ensures
    refl refl

pub returns-then-write-clause-copied : goal.returns-then-write-clause-copied
returns-then-write-clause-copied c =
    let size : length c.read.new.bytes ≡ c.args.count = omega arith in
    copied-over c.args.self.now.win32 c.write.new.self.win32 c.args.from.now.slot c.args.from.now.region
    c.args.from.now.place
    c.args.into.now.slot c.args.into.now.region c.args.into.now.place c.args.count reply.Done
    (few-enough c.args.count c.requires.few) c.args.buffer.now c.read.new.bytes c.requires.size size
    c.if-not-read.ensures c.if-write.ensures.written refl

pub returns-else-write-clause-copied : goal.returns-else-write-clause-copied
returns-else-write-clause-copied c =
    let size : length c.read.new.bytes ≡ c.args.count = omega arith in
    unwritten c.args.self.now.win32 c.write.new.self.win32 c.args.from.now.slot c.args.from.now.region
    c.args.from.now.place
    c.args.into.now.slot c.args.into.now.region c.args.into.now.place c.args.count reply.BadRange
    (few-enough c.args.count c.requires.few) c.args.buffer.now c.read.new.bytes c.requires.size size
    c.if-not-read.ensures c.if-write.ensures.written refl
