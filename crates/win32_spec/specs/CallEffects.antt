-- Each call makes one of the changes: the calls that leave handles, lives and kinds alone.
use Rattle.std.proofs.Common.{◌≡◌, ℕ, ◌+◌, ◌%◌, ◌^◌, Bool, true, false, if◌then◌else◌, nat_eq, nat_lt, List, length}
use Rattle.std.proofs.Common.{Option, Some, None, MatchOption, MatchBool, slice_index, slice_set, refl, sym, ap, subst}
use Rattle.std.proofs.lemmas.List.{length-set}
use Rattle.tty_spec.specs.Terminal.{Terminal}
use Rattle.w32_base.specs.declared.call.Call.{Call}
use Rattle.w32_base.specs.declared.call.Call.TheVariants as call
use Rattle.w32_base.specs.declared.call.Reply.{Reply}
use Rattle.script_spec.specs.declared.script.Script.{Script}
use Rattle.win32_spec.specs.Objects.{EventState, Ownership, exchanged, added}
use Rattle.win32_spec.specs.State.{Object, Section, Event, Mutex, Pipe, ProcessObject, TerminalObject, Win32State}
use Rattle.win32_spec.specs.Lookup.{object_of, with_object}
use Rattle.win32_spec.specs.Named.{named_by, number_or_zero, object_number_by, object_at, object_by, section_named}
use Rattle.win32_spec.specs.Named.{event_named, mutex_named, pipe_named, process_named, terminal_named}
use Rattle.win32_spec.specs.WordCalls.{words_by, after_exchange, after_add, LoadStep, ExchangeStep, AddStep}
use Rattle.win32_spec.specs.Tame.{ObjectBecomes}
use Rattle.win32_spec.specs.TameSteps.{tame_same, tame_object}
use Rattle.win32_spec.specs.Effects.{MayWrite, MayExchange, CallEffect, Changes}

-- a fact by the cases of a test or of what is there
pub by_bool : {P Q R : Type 0} (b : Bool) → (b ≡ true → P → R) → (b ≡ false → Q → R) → MatchBool b P Q → R
by_bool true first second m = first refl m
by_bool false first second m = second refl m

pub by_option : {X : Type 0} {P R : Type 0} {Q : X → Type 0} (o : Option X) → (o ≡ None → P → R)
    → ((x : X) → o ≡ Some x → Q x → R)
    → MatchOption o P Q → R
by_option None absent present m = absent refl m
by_option (Some x) absent present m = present x refl m

-- an object that a handle names is listed, by its number
pub object_by-found : (s : Win32State) (w h : ℕ) (x : Object) → object_by s w h ≡ Some x
    → object_of s.objects (object_number_by s w h) ≡ Some x
object_by-found s w h x e = by_answer (named_by s w h) e
  where
    by_answer : (o : Option ℕ) → object_at s o ≡ Some x → object_of s.objects (number_or_zero o) ≡ Some x
    by_answer None f = absurd (cc)
    by_answer (Some names) f = f

-- what is named by its kind is of this kind
pub is_section : (o : Option Object) (words : List ℕ) → section_named o ≡ Some words → o ≡ Some (Section words)
is_section (Some (Section v)) words e = ap (λ k. Some (Section k)) (let f : v ≡ words = cc in f)
is_section _ words e = absurd (cc)

pub is_event : (o : Option Object) (state : EventState) → event_named o ≡ Some state → o ≡ Some (Event state)
is_event (Some (Event v)) state e = ap (λ k. Some (Event k)) (let f : v ≡ state = cc in f)
is_event _ state e = absurd (cc)

pub is_mutex : (o : Option Object) (owner : Ownership) → mutex_named o ≡ Some owner → o ≡ Some (Mutex owner)
is_mutex (Some (Mutex v)) owner e = ap (λ k. Some (Mutex k)) (let f : v ≡ owner = cc in f)
is_mutex _ owner e = absurd (cc)

pub is_pipe : (o : Option Object) (bytes : List ℕ) → pipe_named o ≡ Some bytes → o ≡ Some (Pipe bytes)
is_pipe (Some (Pipe v)) bytes e = ap (λ k. Some (Pipe k)) (let f : v ≡ bytes = cc in f)
is_pipe _ bytes e = absurd (cc)

pub is_process : (o : Option Object) (v : ℕ) → process_named o ≡ Some v → o ≡ Some (ProcessObject v)
is_process (Some (ProcessObject u)) v e = ap (λ k. Some (ProcessObject k)) (let f : u ≡ v = cc in f)
is_process _ v e = absurd (cc)

pub is_terminal : (o : Option Object) (terminal : Terminal) → terminal_named o ≡ Some terminal
    → o ≡ Some (TerminalObject terminal)
is_terminal (Some (TerminalObject v)) terminal e = ap (λ k. Some (TerminalObject k)) (let f : v ≡ terminal = cc in f)
is_terminal _ terminal e = absurd (cc)

-- a call that changes nothing
pub unchanged : (script : Script) (s : Win32State) (w t : ℕ) (c : Call) (new : Win32State) → new ≡ s
    → CallEffect script s w t c new
unchanged script s w t c new e =
    subst (λ n. CallEffect script s w t c n) (sym e)
    (Changes (tame_same script (MayWrite s w c) (MayExchange c) ⊥ w t s))

-- a call that changes what an object holds
pub object_changes : (script : Script) (s : Win32State) (w t : ℕ) (c : Call) (h : ℕ) (x y : Object) (new : Win32State)
    → object_by s w h ≡ Some x
    → ObjectBecomes (MayExchange c) w t x y → new ≡ with_object s (object_number_by s w h) y
    → CallEffect script s w t c new
object_changes script s w t c h x y new e b n =
    subst (λ k. CallEffect script s w t c k) (sym n)
    (Changes (tame_object script (MayWrite s w c) (MayExchange c) ⊥ w t s (object_number_by s w h) x y
    (object_by-found s w h x e) b))

-- Words.
length-exchanged : (words : List ℕ) (i old n : ℕ) → length (exchanged words i old n) ≡ length words
length-exchanged words i old n = by_tests (nat_lt i (length words)) (nat_eq (slice_index words i) old)
  where
    by_tests : (a b : Bool) → length (if a then (if b then slice_set words i n else words) else words) ≡ length words
    by_tests true true = length-set words i n
    by_tests true false = refl
    by_tests false b = refl

length-added : (words : List ℕ) (i n : ℕ) → length (added words i n) ≡ length words
length-added words i n = by_test (nat_lt i (length words))
  where
    by_test : (a : Bool) → length (if a then slice_set words i ((slice_index words i + n) % 2 ^ 64) else words) ≡
        length words
    by_test true = length-set words i ((slice_index words i + n) % 2 ^ 64)
    by_test false = refl

pub load_effect : (script : Script) (s : Win32State) (w t h i : ℕ) (r : Reply) (new : Win32State)
    → LoadStep s w h i r new
    → CallEffect script s w t (call.Load h i) new
load_effect script s w t h i r new step = unchanged script s w t (call.Load h i) new step.1

pub exchange_effect : (script : Script) (s : Win32State) (w t h i old n : ℕ) (r : Reply) (new : Win32State)
    → ExchangeStep s w h i old n r new
    → CallEffect script s w t (call.CompareExchange h i old n) new
exchange_effect script s w t h i old n r new step = by_words (words_by s w h) refl step.1
  where
    by_words : (o : Option (List ℕ)) → words_by s w h ≡ o → new ≡ after_exchange s w h o i old n
        → CallEffect script s w t (call.CompareExchange h i old n) new
    by_words None e f = unchanged script s w t (call.CompareExchange h i old n) new f
    by_words (Some words) e f =
        object_changes script s w t (call.CompareExchange h i old n) h (Section words)
        (Section (exchanged words i old n)) new
        (is_section (object_by s w h) words e)
        (record { only = refl; ends = refl; holds = (length-exchanged words i old n, λ no. absurd (no tt)) }) f

pub add_effect : (script : Script) (s : Win32State) (w t h i n : ℕ) (r : Reply) (new : Win32State)
    → AddStep s w h i n r new
    → CallEffect script s w t (call.FetchAdd h i n) new
add_effect script s w t h i n r new step = by_words (words_by s w h) refl step.1
  where
    by_words : (o : Option (List ℕ)) → words_by s w h ≡ o → new ≡ after_add s w h o i n
        → CallEffect script s w t (call.FetchAdd h i n) new
    by_words None e f = unchanged script s w t (call.FetchAdd h i n) new f
    by_words (Some words) e f =
        object_changes script s w t (call.FetchAdd h i n) h (Section words) (Section (added words i n)) new
        (is_section (object_by s w h) words e)
        (record { only = refl; ends = refl; holds = (length-added words i n, λ no. absurd (no tt)) }) f
