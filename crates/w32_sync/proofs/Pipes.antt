-- What a pipe shows after a byte is put into its ring or taken out of it.
use Rattle.std.proofs.Common.{◌≡◌, ℕ, ◌+◌, ◌-◌, ◌%◌, ◌<◌, [], ◌∷◌, ◌++◌, length, get_or, set, ap, ◌∙◌, sym, arith}
use Rattle.win32_spec.specs.Objects.{PipeState}
use Rattle.w32_sync.specs.Ring.{window, pipe_shown, IsPipe}
use Rattle.w32_sync.specs.declared.pipe.Pipe.TheInside.{Inside}
use Rattle.w32_sync.proofs.Window.{length-window, window_after_push, window_before_pop}

pub length-pipe_shown : (p : Inside) → IsPipe p → length p.ring ≡ 64 → length (pipe_shown p).bytes ≡ p.len
length-pipe_shown p h room = length-window 64 p.oldest p.len p.ring h.oldest h.len room

-- a byte behind the last one
pub after_push : (p : Inside) (s : PipeState) (b : ℕ) → pipe_shown p ≡ s → IsPipe p → length p.ring ≡ 64
    → length s.bytes < 64 →
    pipe_shown (record p { ring = set p.ring ((p.oldest + p.len) % 64) b; len = p.len + 1 }) ≡ record s {
      bytes =
          s.bytes ++ b ∷ [];
    }
after_push p s b shown h room less =
    let has_room : p.len < 64 =
    omega (arith, length-pipe_shown p h room, ap (λ (s : PipeState). length s.bytes) shown) in
    ap (λ xs. let t : PipeState = record { bytes = xs; readers = p.readers; writers = p.writers } in t)
    (window_after_push 64 p.oldest p.len p.ring h.oldest h.len room b has_room)
    ∙ ap (λ (s : PipeState). let t : PipeState = record s { bytes = s.bytes ++ b ∷ [] } in t) shown

-- the first byte and those behind it
pub before_pop : (p : Inside) (s : PipeState) → pipe_shown p ≡ s → IsPipe p → length p.ring ≡ 64 → 0 < length s.bytes →
    s ≡ record {
      bytes = get_or p.ring p.oldest 0 ∷ window ((p.oldest + 1) % 64) (p.len - 1) p.ring;
      readers =
          p.readers;
      writers = p.writers;
    }
before_pop p s shown h room some =
    let has_byte : 0 < p.len =
    omega (arith, length-pipe_shown p h room, ap (λ (s : PipeState). length s.bytes) shown) in
    sym shown
    ∙ ap (λ xs. let t : PipeState = record { bytes = xs; readers = p.readers; writers = p.writers } in t)
    (window_before_pop 64 p.oldest p.len p.ring h.oldest h.len room has_byte)
