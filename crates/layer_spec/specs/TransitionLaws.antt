-- A change of a legal main word gives a legal one.
use Rattle.std.specs.Prelude.{◌≡◌, ℕ, ◌-◌, ◌^◌, ◌<◌, Bool, true, false, ◌&&◌, nat_eq, nat_lt, if◌then◌else◌, Option}
use Rattle.std.specs.Prelude.{Some, None, bit_and}
use Rattle.std.proofs.Common.{refl, subst, arith}
use Rattle.std.proofs.lemmas.Nat.{or_lt, and_le_l, pow_below}
use Rattle.std.proofs.lemmas.Bool.{and_parts}
use Rattle.std.proofs.lemmas.Bool.Decides.{nat_tests}
use Rattle.posix_spec.specs.Signals.{is_signal, only, contains, outside, continue_signal, is_stop_signal, generate}
use Rattle.posix_spec.specs.Signals.{taken_by}
use Rattle.layer_spec.specs.Rows.{RowKind, Free, Held, Running, Stopped, Zombie, Gone, MainWord, IsMain, fits_kind}
use Rattle.layer_spec.specs.Transitions.{Op, Hold, Drop, Publish, Post, Probe, Clear, Stop, TakeOver, Seal, Report}
use Rattle.layer_spec.specs.Transitions.{Reap, Collect, trans, is_op, held, gone, published, posted, woken, without}
use Rattle.layer_spec.specs.Transitions.{cleared, stopped, sealed, reported, taken_over, by_kind}

pub only_below : (s : ℕ) → is_signal s ≡ true → only s < 2 ^ 31
only_below s h = let below : s - 1 < 31 = grind (arith, nat_tests) in rw h (pow_below (s - 1) 31 below)

pub outside_below : (set other : ℕ) → set < 2 ^ 31 → outside set other < 2 ^ 31
outside_below set other h = omega (arith, and_le_l set (2 ^ 31 - 1 - bit_and other (2 ^ 31 - 1)))

pub generate_below : (pending s : ℕ) → is_signal s ≡ true → pending < 2 ^ 31 → generate pending s < 2 ^ 31
generate_below pending s h below =
    or_lt 31 (outside pending (taken_by s)) (only s) (outside_below pending (taken_by s) below) (only_below s h)

-- what comes of a change, if anything, is legal
abbrev pub IsLegal : Option MainWord → Type 0
IsLegal None = Unit {0}
IsLegal (Some m) = IsMain m

-- a line of the table, by its columns
pub legal_line : (kind : RowKind) (a b c d e f : Option MainWord) → (kind ≡ Free → IsLegal a)
    → (kind ≡ Held → IsLegal b)
    → (kind ≡ Running → IsLegal c) → (kind ≡ Stopped → IsLegal d) → (kind ≡ Zombie → IsLegal e)
    → (kind ≡ Gone → IsLegal f)
    → IsLegal (by_kind kind a b c d e f)
legal_line Free a b c d e f pa pb pc pd pe pf = pa refl
legal_line Held a b c d e f pa pb pc pd pe pf = pb refl
legal_line Running a b c d e f pa pb pc pd pe pf = pc refl
legal_line Stopped a b c d e f pa pb pc pd pe pf = pd refl
legal_line Zombie a b c d e f pa pb pc pd pe pf = pe refl
legal_line Gone a b c d e f pa pb pc pd pe pf = pf refl

abbrev pub fits : (kind : RowKind) (m : MainWord) → IsMain m → m.kind ≡ kind → fits_kind kind m ≡ true
fits kind m h k = subst (λ (x : RowKind). fits_kind x m ≡ true) k h

-- a set of pending signals changed, in a running or a stopped row
pub running_with : (m : MainWord) (pending : ℕ) → fits_kind Running m ≡ true → pending < 2 ^ 31
    → fits_kind Running (record m { pending = pending }) ≡ true
running_with m pending h below = grind (arith, nat_tests)

pub stopped_with : (m : MainWord) (pending : ℕ) → fits_kind Stopped m ≡ true → pending < 2 ^ 31
    → fits_kind Stopped (record m { pending = pending }) ≡ true
stopped_with m pending h below = grind (arith, nat_tests)

pub running_below : (m : MainWord) → fits_kind Running m ≡ true → m.pending < 2 ^ 31
running_below m h = grind (arith, nat_tests)

pub stopped_below : (m : MainWord) → fits_kind Stopped m ≡ true → m.pending < 2 ^ 31
stopped_below m h = grind (arith, nat_tests)

pub posted_legal : (m : MainWord) (s : ℕ) → IsMain m → is_signal s ≡ true → m.kind ≡ Running → IsMain (posted m s)
posted_legal m s h op k = let f = fits Running m h k in
    rw k (running_with m (generate m.pending s) f (generate_below m.pending s op (running_below m f)))

pub one_of_legal : (b : Bool) (x y : MainWord) → IsMain x → IsMain y → IsMain (if b then x else y)
one_of_legal true x y hx hy = hx
one_of_legal false x y hx hy = hy

pub legal_where : (b : Bool) (m : MainWord) → (b ≡ true → IsMain m) → IsLegal (if b then Some m else None)
legal_where true m h = h refl
legal_where false m h = tt

-- a stopped row that a continue wakes
pub continued : (m : MainWord) (pending : ℕ) → fits_kind Stopped m ≡ true → pending < 2 ^ 31
    → fits_kind Running (record m { kind = Running; pending = pending; report = 2; stop = 0 }) ≡ true
continued m pending h below = grind (arith, nat_tests)

pub woken_legal : (m : MainWord) (s : ℕ) → IsMain m → is_signal s ≡ true → m.kind ≡ Stopped → IsMain (woken m s)
woken_legal m s h op k = let f = fits Stopped m h k in
    let below = generate_below m.pending s op (stopped_below m f) in
    one_of_legal (nat_eq s continue_signal) (record (posted m s) { kind = Running; report = 2; stop = 0 }) (posted m s)
    (continued m (generate m.pending s) f below) (rw k (stopped_with m (generate m.pending s) f below))

pub cleared_legal : (m : MainWord) (s : ℕ) → IsMain m → m.kind ≡ Running → IsLegal (cleared m s)
cleared_legal m s h k = let f = fits Running m h k in
    legal_where (contains m.pending s) (without m s)
    (λ _. rw k (running_with m (outside m.pending (only s)) f (outside_below m.pending (only s) (running_below m f))))

-- a running row that a signal stops
pub stopping : (m : MainWord) (s pending : ℕ) → fits_kind Running m ≡ true → is_stop_signal s ≡ true → pending < 2 ^ 31
    → fits_kind Stopped (record m { kind = Stopped; pending = pending; report = 1; stop = s }) ≡ true
stopping m s pending h stops below = grind (arith, nat_tests)

pub stopped_legal : (m : MainWord) (s : ℕ) → IsMain m → m.kind ≡ Running → IsLegal (stopped m s)
stopped_legal m s h k = let f = fits Running m h k in
    legal_where (is_stop_signal s && contains m.pending s)
    (record (without m s) { kind = Stopped; stop = s; report = 1 })
    (λ b. stopping m s (outside m.pending (only s)) f (and_parts (is_stop_signal s) (contains m.pending s) b).0
    (outside_below m.pending (only s) (running_below m f)))

pub published_legal : (image : ℕ) → nat_lt image (2 ^ 19) ≡ true → IsMain (published image)
published_legal image h = grind (arith, nat_tests)

pub taken_over_fits : (m : MainWord) (image : ℕ) → fits_kind Running m ≡ true → nat_lt image (2 ^ 19) ≡ true
    → fits_kind Running (record m { image = image; execd = true }) ≡ true
taken_over_fits m image h op = grind (arith, nat_tests)

pub sealed_legal : (m : MainWord) (status : ℕ) → m.image < 2 ^ 19 → nat_lt status (2 ^ 9) ≡ true
    → IsMain (sealed m status)
sealed_legal m status h op = grind (arith, nat_tests)

pub running_image : (m : MainWord) → fits_kind Running m ≡ true → m.image < 2 ^ 19
running_image m h = grind (arith, nat_tests)

pub stopped_image : (m : MainWord) → fits_kind Stopped m ≡ true → m.image < 2 ^ 19
stopped_image m h = grind (arith, nat_tests)

pub running_reported : (m : MainWord) → fits_kind Running m ≡ true → fits_kind Running (record m { report = 0 }) ≡ true
running_reported m h = grind (arith, nat_tests)

pub stopped_reported : (m : MainWord) → fits_kind Stopped m ≡ true → fits_kind Stopped (record m { report = 0 }) ≡ true
stopped_reported m h = grind (arith, nat_tests)

pub legal_change : (m : MainWord) (op : Op) → IsMain m → is_op op ≡ true → IsLegal (trans m op)
legal_change m Hold h o =
    legal_line m.kind (Some held) None None None None None (λ _. refl) (λ _. tt) (λ _. tt) (λ _. tt) (λ _. tt) (λ _. tt)
legal_change m Drop h o =
    legal_line m.kind None (Some gone) None None None None (λ _. tt) (λ _. refl) (λ _. tt) (λ _. tt) (λ _. tt) (λ _. tt)
legal_change m (Publish image) h o = legal_line m.kind None (Some (published image)) None None None None
    (λ _. tt) (λ _. published_legal image o) (λ _. tt) (λ _. tt) (λ _. tt) (λ _. tt)
legal_change m (Post s) h o = legal_line m.kind None None (Some (posted m s)) (Some (woken m s)) (Some m) None
    (λ _. tt) (λ _. tt) (posted_legal m s h o) (woken_legal m s h o) (λ _. h) (λ _. tt)
legal_change m Probe h o =
    legal_line m.kind None None (Some m) (Some m) (Some m) None (λ _. tt) (λ _. tt) (λ _. h) (λ _. h) (λ _. h) (λ _. tt)
legal_change m (Clear s) h o = legal_line m.kind None None (cleared m s) None None None
    (λ _. tt) (λ _. tt) (cleared_legal m s h) (λ _. tt) (λ _. tt) (λ _. tt)
legal_change m (Stop s) h o = legal_line m.kind None None (stopped m s) None None None
    (λ _. tt) (λ _. tt) (stopped_legal m s h) (λ _. tt) (λ _. tt) (λ _. tt)
legal_change m (TakeOver image) h o = legal_line m.kind None None (Some (taken_over m image)) None None None
    (λ _. tt) (λ _. tt) (λ k. rw k (taken_over_fits m image (fits Running m h k) o)) (λ _. tt) (λ _. tt) (λ _. tt)
legal_change m (Seal status) h o =
    legal_line m.kind None None (Some (sealed m status)) (Some (sealed m status)) None None
    (λ _. tt) (λ _. tt) (λ k. sealed_legal m status (running_image m (fits Running m h k)) o)
    (λ k. sealed_legal m status (stopped_image m (fits Stopped m h k)) o) (λ _. tt) (λ _. tt)
legal_change m Report h o = legal_line m.kind None None (reported m 2) (reported m 1) None None (λ _. tt) (λ _. tt)
    (λ k. legal_where (nat_eq m.report 2) (record m { report = 0 })
    (λ _. rw k (running_reported m (fits Running m h k))))
    (λ k. legal_where (nat_eq m.report 1) (record m { report = 0 })
    (λ _. rw k (stopped_reported m (fits Stopped m h k))))
    (λ _. tt) (λ _. tt)
legal_change m Reap h o =
    legal_line m.kind None None None None (Some gone) None (λ _. tt) (λ _. tt) (λ _. tt) (λ _. tt) (λ _. refl) (λ _. tt)
legal_change m Collect h o =
    legal_line m.kind None None None None (Some gone) None (λ _. tt) (λ _. tt) (λ _. tt) (λ _. tt) (λ _. refl) (λ _. tt)

-- what a change within its ranges makes of a legal record is legal
pub trans_keeps_legal : (m : MainWord) (op : Op) (new : MainWord) → IsMain m → is_op op ≡ true
    → trans m op ≡ Some new → IsMain new
trans_keeps_legal m op new h o e = subst IsLegal e (legal_change m op h o)
