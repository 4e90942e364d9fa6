-- The texts of replies, directives and outcomes.
use Rattle.std.specs.Prelude.{ℕ, List, [], ◌∷◌, codes}
use Rattle.std.specs.Fmt.{decimal}
use Rattle.w32_base.specs.declared.call.Reply.{Reply}
use Rattle.w32_base.specs.declared.call.Reply.TheVariants as reply
use Rattle.w32_base.specs.declared.entry.Directive.{Directive}
use Rattle.w32_base.specs.declared.entry.Directive.TheVariants as directive
use Rattle.w32_base.specs.declared.entry.Outcome.{Outcome}
use Rattle.w32_base.specs.declared.entry.Outcome.TheVariants as outcome
use Rattle.log_spec.specs.Texts.{spaced, byte_text}

-- the words of a reply, one case each
abbrev pub reply_words : Reply → List (List ℕ)
reply_words (reply.Ran n) = codes "ran" ∷ decimal n ∷ []
reply_words (reply.Word x) = codes "word" ∷ decimal x ∷ []
reply_words reply.BadIndex = codes "badindex" ∷ []
reply_words (reply.Made h w) = codes "made" ∷ decimal h ∷ decimal w ∷ []
reply_words reply.NoSlot = codes "noslot" ∷ []
reply_words reply.TableFull = codes "tablefull" ∷ []
reply_words (reply.Count n) = codes "count" ∷ decimal n ∷ []
reply_words reply.Gone = codes "gone" ∷ []
reply_words (reply.Handle h) = codes "handle" ∷ decimal h ∷ []
reply_words reply.Unknown = codes "unknown" ∷ []
reply_words (reply.Code n) = codes "code" ∷ decimal n ∷ []
reply_words reply.Active = codes "active" ∷ []
reply_words reply.Done = codes "done" ∷ []
reply_words reply.BadRange = codes "badrange" ∷ []
reply_words (reply.Base n) = codes "base" ∷ decimal n ∷ []
reply_words reply.NotOwner = codes "notowner" ∷ []
reply_words (reply.Two read write) = codes "two" ∷ decimal read ∷ decimal write ∷ []
reply_words reply.NoReader = codes "noreader" ∷ []
reply_words reply.Full = codes "full" ∷ []
reply_words (reply.Byte b) = codes "byte" ∷ decimal b ∷ []
reply_words reply.Broken = codes "broken" ∷ []
reply_words reply.Empty = codes "empty" ∷ []
reply_words reply.BadHandle = codes "badhandle" ∷ []
reply_words (reply.Woke i) = codes "woke" ∷ decimal i ∷ []
reply_words (reply.Abandoned i) = codes "abandoned" ∷ decimal i ∷ []
reply_words (reply.Key b s g) = codes "key" ∷ decimal b ∷ decimal s ∷ decimal g ∷ []
reply_words reply.NoKey = codes "nokey" ∷ []
reply_words reply.Background = codes "background" ∷ []
reply_words reply.NoLine = codes "noline" ∷ []
reply_words (reply.Line n) = codes "line" ∷ decimal n ∷ []
reply_words (reply.Written n) = codes "put" ∷ decimal n ∷ []
reply_words (reply.State foreground session flags) =
    codes "state" ∷ decimal foreground ∷ decimal session ∷ decimal flags ∷ []

abbrev pub reply_text : Reply → List ℕ
reply_text r = spaced (reply_words r)

-- a directive, its key as two hexadecimal digits
abbrev pub directive_text : Directive → List ℕ
directive_text (directive.Turn slot thread) = spaced (codes "turn" ∷ decimal slot ∷ decimal thread ∷ [])
directive_text (directive.End slot) = spaced (codes "end" ∷ decimal slot ∷ [])
directive_text (directive.Key byte) = spaced (codes "key" ∷ byte_text byte ∷ [])

-- what came of a directive: the reply, where a call was carried out
abbrev pub outcome_text : Outcome → List ℕ
outcome_text outcome.Idle = codes "idle"
outcome_text (outcome.Step r) = reply_text r
outcome_text (outcome.Ended w) = spaced (codes "ended" ∷ decimal w ∷ [])
outcome_text outcome.Keyed = codes "keyed"
