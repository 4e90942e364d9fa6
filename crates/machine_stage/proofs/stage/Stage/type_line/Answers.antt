use Rattle.std.proofs.Common.{◌≡◌, ◌+◌, ◌<◌, length, None, Some, sym, subst, rules}
use Rattle.w32_machine.specs.Contract.{key_lines}
use Rattle.machine_stage.specs.Staged.{staged_key}
use Rattle.machine_stage.specs.Typing.{IsTypedTo, room_at, typed_at}
use Rattle.machine_stage.proofs.stage.Stage.type_line.Goals as goal

pub returns-in_default-clause-typed : goal.returns-in_default-clause-typed
returns-in_default-clause-typed c =
    let none : c.key_at.result ≡ None = search rules in
    typed_at c.args.lines.now c.args.place c.key_at.result c.args.self.now.machine.win32.keys c.requires.within
    c.key_at.ensures none c.requires.typed

pub key-requires : goal.key-requires
key-requires c =
    let some : c.key_at.result ≡ Some c.in-Some.b = search rules in
    let typed : IsTypedTo c.args.lines.now c.args.place c.self.inside.machine.win32.keys = search rules in
    let room = room_at c.args.lines.now c.args.place c.in-Some.b c.key_at.result c.self.inside.machine.win32.keys
    c.requires.within c.key_at.ensures some typed in
    let same : c.args.lines.now ≡ c.self.inside.machine.script.directives = search rules in
    subst (λ lines. length c.self.inside.machine.win32.keys < key_lines lines) same room.0

pub invariant_of-self : goal.invariant_of-self
invariant_of-self c =
    staged_key c.self.inside.turns c.in-Some.b c.self.inside.machine c.key.new.self c.self.invariant
    c.key.ensures.queued c.key.ensures.script

pub returns-clause-typed : goal.returns-clause-typed
returns-clause-typed c =
    let some : c.key_at.result ≡ Some c.in-Some.b = search rules in
    let typed : IsTypedTo c.args.lines.now c.args.place c.self.inside.machine.win32.keys = search rules in
    let room = room_at c.args.lines.now c.args.place c.in-Some.b c.key_at.result c.self.inside.machine.win32.keys
    c.requires.within c.key_at.ensures some typed in
    subst (λ s. IsTypedTo c.args.lines.now (c.args.place + 1) s.keys) (sym c.key.ensures.queued) room.1
