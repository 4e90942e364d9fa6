use Rattle.std.proofs.Common.{◌≡◌, ℕ, None, ◌∙◌, ap}
use Rattle.std.specs.Prelude.{bit_or}
use Rattle.vm_spec.specs.Frames.{has_frame_room, with_frame}
use Rattle.sig_sets.specs.Shown.{bits_of}
use Rattle.posix_spec.specs.Conditions.{call_ended}
use Rattle.posix_spec.specs.Pending.{without_signal}
use Rattle.posix_spec.specs.SignalActs.{interrupted_image, mask_to_return}
use Rattle.posix_spec.specs.Signals.{only}
use Rattle.posix_spec.specs.State.{Record}
use Rattle.posix_model.specs.Shown.{record_of}
use Rattle.posix_model.proofs.HandlerLemmas.{room-interrupted}
use Rattle.posix_model.proofs.process.Process.enter_handler.Goals as goal

pub push-requires : goal.push-requires
push-requires c =
    ap (λ (r : Record). has_frame_room r.image) c.interrupt.ensures
    ∙ room-interrupted c.args.handling.interrupted (record_of c.args.self.now).image c.args.self.now.data c.requires

pub returns : goal.returns
returns c =
    let r = record_of c.args.self.now in
    let signal = c.args.handling.signal.number in
    let target = c.args.handling.target in
    let image = interrupted_image c.args.handling.interrupted r.image in
    let pushed : ℕ → Record → Record = λ k x. record x { image = with_frame x.image k target } in
    let begun : record_of c.discard.new.self ≡ without_signal (pushed (mask_to_return r) (record r { image = image }))
    signal =
    c.discard.ensures
    ∙ ap (λ (x : Record). without_signal x signal) (c.push.ensures
    ∙ ap (pushed (bits_of c.mask_to_return-mask.result)) c.interrupt.ensures
    ∙ ap (λ (k : ℕ). pushed k (record r { image = image })) c.mask_to_return-mask.ensures) in
    let masked : bits_of c.union-self.result ≡ bit_or r.mask (only signal) =
    c.union-self.ensures tt
    ∙ ap (bit_or (bits_of c.discard.new.self.mask)) c.only.ensures
    ∙ ap (λ (x : Record). bit_or x.mask (only signal)) begun in
    c.end_call.ensures
    ∙ ap (λ (x : Record). call_ended (record x { mask = bits_of c.union-self.result; saved = None })) begun
    ∙ ap (λ (k : ℕ). call_ended (record (without_signal (pushed (mask_to_return r) (record r { image = image })) signal)
    { mask = k; saved = None })) masked
