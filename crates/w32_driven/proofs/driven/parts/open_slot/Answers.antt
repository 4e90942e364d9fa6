use Rattle.std.proofs.Common.{◌+◌, ◌*◌, ◌<◌, ◌≡◌, subst, arith}
use Rattle.win32_spec.specs.Driven.{OpensPart}
use Rattle.win32_spec.specs.Lookup.{thread_at}
use Rattle.w32_driven.proofs.Places.{three_set, set_first, set_second, set_third, set_aside, opens-slot}
use Rattle.w32_driven.proofs.driven.parts.open_slot.Goals as goal

pub returns-clause-here : goal.returns-clause-here
returns-clause-here g c =
    let s = c.args.machine.now.win32 in
    let parts = c.args.parts.now.items in
    let slot = c.args.slot in
    let within : 3 * slot + 2 < 195 =
    omega (arith, c.place-3.ensures.value, c.place-3.ensures.within, c.new-6.ensures) in
    let first : c.place.result ≡ 3 * slot + 0 = omega (arith, c.place.ensures.value, c.new-2.ensures) in
    let second : c.place-2.result ≡ 3 * slot + 1 = omega (arith, c.place-2.ensures.value, c.new-4.ensures) in
    let third : c.place-3.result ≡ 3 * slot + 2 = omega (arith, c.place-3.ensures.value, c.new-6.ensures) in
    opens-slot g.P.Part.posted_of g.P.Part.goes g.P.Whole.opening g.P.Whole.slot_of g.P.Whole.thread_of s slot
    c.part_of.ensures.few
    (three_set parts slot c.place.result c.place-2.result c.place-3.result c.requires within first second third
    c.part_of.result c.part_of-2.result c.part_of-3.result)
    c.part_of.result c.part_of-2.result c.part_of-3.result
    (subst (λ n. OpensPart g.P.Part.posted_of g.P.Part.goes g.P.Whole.opening g.P.Whole.slot_of
    g.P.Whole.thread_of (thread_at s slot n) slot n c.part_of.result) c.new.ensures c.part_of.ensures.opened)
    (subst (λ n. OpensPart g.P.Part.posted_of g.P.Part.goes g.P.Whole.opening g.P.Whole.slot_of
    g.P.Whole.thread_of (thread_at s slot n) slot n c.part_of-2.result) c.new-3.ensures
    c.part_of-2.ensures.opened)
    (subst (λ n. OpensPart g.P.Part.posted_of g.P.Part.goes g.P.Whole.opening g.P.Whole.slot_of
    g.P.Whole.thread_of (thread_at s slot n) slot n c.part_of-3.result) c.new-5.ensures
    c.part_of-3.ensures.opened)
    (set_first parts slot c.place.result c.place-2.result c.place-3.result c.requires within first second third
    c.part_of.result c.part_of-2.result c.part_of-3.result)
    (set_second parts slot c.place.result c.place-2.result c.place-3.result c.requires within first second third
    c.part_of.result c.part_of-2.result c.part_of-3.result)
    (set_third parts slot c.place.result c.place-2.result c.place-3.result c.requires within first second third
    c.part_of.result c.part_of-2.result c.part_of-3.result)

pub returns-clause-others : goal.returns-clause-others
returns-clause-others g c =
    let slot = c.args.slot in
    let within : 3 * slot + 2 < 195 =
    omega (arith, c.place-3.ensures.value, c.place-3.ensures.within, c.new-6.ensures) in
    let first : c.place.result ≡ 3 * slot + 0 = omega (arith, c.place.ensures.value, c.new-2.ensures) in
    let second : c.place-2.result ≡ 3 * slot + 1 = omega (arith, c.place-2.ensures.value, c.new-4.ensures) in
    let third : c.place-3.result ≡ 3 * slot + 2 = omega (arith, c.place-3.ensures.value, c.new-6.ensures) in
    set_aside c.args.parts.now.items slot c.place.result c.place-2.result c.place-3.result c.requires within first
    second third c.part_of.result c.part_of-2.result c.part_of-3.result
