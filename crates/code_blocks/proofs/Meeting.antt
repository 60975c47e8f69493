-- What a scope says of the points around a construct is so of those around its block.
use Rattle.std.proofs.Common.{◌≡◌, refl, sym, ap, ◌∙◌, subst, ℕ, ◌<◌, ◌≤◌, List, Contains, Some, None, Bool, true, false, ◌||◌, if◌then◌else◌, arith}
use Rattle.std.proofs.lemmas.List.Elements.{All-contains, Contains-append_right}
use Rattle.mesa_types.specs.declared.types.FieldType.{FieldType}
use Rattle.mesa_types.specs.declared.typed_parts.Label.{Label}
use Rattle.mesa_types.specs.Sound as sound
use Rattle.mesa_types.specs.Sound.{Scope, Reaches, IsForRaises, LabelsIn, labels_in, scope_of}
use Rattle.mesa_types.specs.Typed.{Point, Start, After, At, Leave, Exits, NoExits, AndExit, Body, Module}
use Rattle.code_rules.specs.Agreement.{IsOutOf, IsUsed, Agrees}
use Rattle.code_rules.specs.Points.{Way, here_or, in_body, in_marked, in_labelled, in_arm, is_among}
use Rattle.code_rules.proofs.Agreement.{jumps_leave_their_arms}
use Rattle.code_blocks.proofs.Fits.{Ways, is_label}
use Rattle.code_blocks.proofs.Labels.{among, not_among, among_both}
use Rattle.code_blocks.proofs.Reaching.{reaches_marked, reaches_labelled, one_arm_out}

pub record Meets (Γ : Scope) (ways : Ways) : Type 0 where
  pub agrees : Agrees Γ ways
  -- where RETRY and CONTINUE may stand
  pub retry : IsForRaises Γ.arm → Reaches Γ 1 (Start Γ.statement)
  pub continue : IsForRaises Γ.arm → Reaches Γ 1 (After Γ.statement)

-- a jump to a point that is reached comes there
pub comes : (Γ : Scope) (ways : Ways) (arms : ℕ) (p : Point) → Meets Γ ways → Reaches Γ arms p → IsOutOf arms (ways p)
comes Γ ways arms p h reach = (jumps_leave_their_arms.in_scopes).jump Γ ways arms p h.agrees reach

-- where RESUME, RETRY and CONTINUE may stand, an arm is around
pub is_in_arm : (Γ : Scope) (ways : Ways) → Meets Γ ways → IsForRaises Γ.arm → 0 < Γ.depth
unfolding Reaches
is_in_arm Γ ways h x = let y = h.retry x in omega (arith, y.2)

pub meets_body : (m : Module) (takes gives : List FieldType) (body : Body) → Meets (scope_of m takes gives body) (in_body tt)
unfolding scope_of IsForRaises
meets_body m takes gives body = record {
  agrees = (jumps_leave_their_arms.in_scopes).body m takes gives body tt;
  retry = λ x. absurd x;
  continue = λ x. absurd x;
}

pub meets_marked : (Γ : Scope) (ways : Ways) (n : ℕ) → Γ.statements ≤ n → Meets Γ ways → Meets (sound.in_marked n Γ) (in_marked n tt tt ways)
unfolding sound.in_marked
meets_marked Γ ways n le h = record {
  agrees = (jumps_leave_their_arms.in_scopes).marked Γ ways n tt tt h.agrees le;
  retry = λ x. reaches_marked Γ n 1 (Start Γ.statement) (h.retry x);
  continue = λ x. reaches_marked Γ n 1 (After Γ.statement) (h.continue x);
}

pub meets_arm : (Γ : Scope) (ways : Ways) (n : ℕ) (labels : List Label) → Reaches Γ 0 (Start n) → Reaches Γ 0 (After n) → Meets Γ ways
    → Meets (sound.in_arm n labels Γ) (in_arm ways)
unfolding sound.in_arm
meets_arm Γ ways n labels start after h = record {
  agrees = (jumps_leave_their_arms.in_scopes).arm Γ ways n labels h.agrees;
  retry = λ x. one_arm_out Γ n labels (Start n) x start;
  continue = λ x. one_arm_out Γ n labels (After n) x after;
}

-- where the same is known of each point that is in use
agrees_still : (Γ : Scope) (ways further : Ways) → ((p : Point) → IsUsed Γ p → further p ≡ ways p) → Agrees Γ ways → Agrees Γ further
agrees_still Γ ways further f h = record {
  ways = λ p depth arms c e. subst (λ way. IsOutOf arms way) (sym (f p (h.used p depth c))) (h.ways p depth arms c e);
  used = h.used;
  around = h.around;
}

-- The labels of an EXITS or REPEAT.

abbrev pub seen_all : Exits → Ways → Ways
seen_all NoExits ways = ways
seen_all (AndExit ls s es) ways = in_labelled (is_label ls) (seen_all es ways)

label_both : (x y : Bool) (way : Way (Unit {0})) → here_or (if x then Some tt else None) (here_or (if y then Some tt else None) way)
    ≡ here_or (if x || y then Some tt else None) way
label_both true y way = refl
label_both false y way = refl

label_of : (l : ℕ) (es : Exits) (ways : Ways) → seen_all es ways (At l) ≡ here_or (is_label (labels_in es) l) (ways (At l))
unfolding labels_in
label_of l NoExits ways = refl
label_of l (AndExit ls s es) ways =
    ap (λ way. here_or (is_label ls l) way) (label_of l es ways)
    ∙ (label_both (is_among l ls) (is_among l (labels_in es)) (ways (At l))
    ∙ ap (λ b. here_or (if b then Some tt else None) (ways (At l))) (sym (among_both l ls (labels_in es))))

start_of : (n : ℕ) (es : Exits) (ways : Ways) → seen_all es ways (Start n) ≡ ways (Start n)
start_of n NoExits ways = refl
start_of n (AndExit ls s es) ways = start_of n es ways

after_of : (n : ℕ) (es : Exits) (ways : Ways) → seen_all es ways (After n) ≡ ways (After n)
after_of n NoExits ways = refl
after_of n (AndExit ls s es) ways = after_of n es ways

leave_of : (es : Exits) (ways : Ways) → seen_all es ways Leave ≡ ways Leave
leave_of NoExits ways = refl
leave_of (AndExit ls s es) ways = leave_of es ways

seen_as : (es : Exits) (ways : Ways) (p : Point) → seen_all es ways p ≡ in_labelled (is_label (labels_in es)) ways p
seen_as es ways (Start n) = start_of n es ways
seen_as es ways (After n) = after_of n es ways
seen_as es ways (At l) = label_of l es ways
seen_as es ways Leave = leave_of es ways

is_new : (l : ℕ) (es : Exits) (limit : ℕ) → l < limit → ((k : ℕ) → Contains (labels_in es) k → limit ≤ k) → is_label (labels_in es) l ≡ None
is_new l es limit lt new =
    ap (λ b. if b then Some tt else None) (not_among l (labels_in es) (λ k c e. omega (arith, lt, e, new k c)))

-- none of these labels is in use around
abbrev pub AreNew : Scope → Exits → Type 0
AreNew Γ es = (k : ℕ) → Contains (labels_in es) k → Γ.labels ≤ k

pub are_new : (Γ : Scope) (past : ℕ) (es : Exits) → LabelsIn Γ past es → AreNew Γ es
unfolding LabelsIn
are_new Γ past es new k c = (All-contains (λ l. (Γ.labels ≤ l) × (l < past)) (labels_in es) k new.1 c).0

pub new_behind : (Γ : Scope) (ls : List ℕ) (s : _) (es : Exits) → AreNew Γ (AndExit ls s es) → AreNew Γ es
unfolding labels_in
new_behind Γ ls s es new k c = new k (Contains-append_right ls (labels_in es) k c)

still_used : (Γ : Scope) (ways : Ways) (es : Exits) → AreNew Γ es → (p : Point) → IsUsed Γ p → seen_all es ways p ≡ ways p
still_used Γ ways es new (Start n) u = start_of n es ways
still_used Γ ways es new (After n) u = after_of n es ways
still_used Γ ways es new (At l) u = label_of l es ways ∙ ap (λ o. here_or o (ways (At l))) (is_new l es Γ.labels u new)
still_used Γ ways es new Leave u = leave_of es ways

-- outside of what the labels are visible in, they change nothing
pub meets_still : (Γ : Scope) (ways : Ways) (es : Exits) → AreNew Γ es → Meets Γ ways → Meets Γ (seen_all es ways)
meets_still Γ ways es new h = record {
  agrees = agrees_still Γ ways (seen_all es ways) (still_used Γ ways es new) h.agrees;
  retry = h.retry;
  continue = h.continue;
}

-- where they are visible
pub meets_labelled : (Γ : Scope) (ways : Ways) (past : ℕ) (es : Exits) → LabelsIn Γ past es → Meets Γ ways
    → Meets (sound.in_labelled past es Γ) (seen_all es ways)
unfolding sound.in_labelled
meets_labelled Γ ways past es new h = record {
  agrees = agrees_still (sound.in_labelled past es Γ) (in_labelled (is_label (labels_in es)) ways) (seen_all es ways) (λ p u. seen_as es ways p)
      ((jumps_leave_their_arms.in_scopes).labelled Γ ways past es (is_label (labels_in es)) h.agrees new
      (λ l c. (tt, ap (λ b. if b then Some tt else None) (among l (labels_in es) c)))
      (λ l lt. is_new l es Γ.labels lt (are_new Γ past es new)));
  retry = λ x. reaches_labelled Γ past es 1 (Start Γ.statement) (h.retry x);
  continue = λ x. reaches_labelled Γ past es 1 (After Γ.statement) (h.continue x);
}
