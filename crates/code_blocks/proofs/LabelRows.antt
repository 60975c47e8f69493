-- The rows of labels: what stands before the statements of an EXITS or REPEAT, and these statements.
use Rattle.std.proofs.Common.{◌≡◌, refl, sym, ap, ◌∙◌, subst, ℕ, ◌+◌, List, [], ◌∷◌, Option, Some, None, Bool, true, false, ◌||◌, if◌then◌else◌, arith}
use Rattle.mesa_types.specs.Typed.{Point, Start, After, At, Leave, Stmt, Exits, NoExits, AndExit}
use Rattle.mesa_types.specs.Counts.{hidden}
use Rattle.mesa_types.specs.Sound.{Scope, labels_in}
use Rattle.code_rules.specs.CodeFor.{ExitsCode, Onward, label_at, no_exits, and_exit}
use Rattle.code_rules.specs.Points.{Way, NoWay, OutOf, Points, here_or, in_labelled, is_among}
use Rattle.code_rules.specs.Reading.{Coded, Destination, Offset, Place, beyond}
use Rattle.code_blocks.specs.Blocks as tree
use Rattle.code_blocks.specs.Blocks.{Labels, Ends, ◌▹◌}
use Rattle.code_blocks.specs.Sizes.{size}
use Rattle.code_blocks.specs.Translation.{past_exits, block, exits}
use Rattle.code_blocks.specs.Writing.{Env, in_part, end_at}
use Rattle.code_blocks.proofs.Known.{Known, known_more}
use Rattle.code_blocks.proofs.Labels.{AreFresh, among_both}
use Rattle.code_blocks.proofs.Lying.{Laid, laid, part_lies}
use Rattle.code_blocks.proofs.ExpressionRows.{L, next}
use Rattle.code_blocks.proofs.StatementRows.{Stands, Keeps, falls_there, jumps_there}

-- Where labels lie.

shown_at : (x : Bool) (offset : ℕ) (label : Option Destination) (v u : Way Destination) (arms : ℕ) (to : Destination)
    → (here_or label v ≡ OutOf arms to → u ≡ OutOf arms to) → here_or (if x then Some (Offset offset) else label) v ≡ OutOf arms to
    → here_or (if x then Some (Offset offset) else None) u ≡ OutOf arms to
shown_at true offset label v u arms to f e = e
shown_at false offset label v u arms to f e = f e

kept_at : (x : Bool) (offset : ℕ) (v u : Way Destination) (arms : ℕ) (to : Destination) → (x ≡ true → v ≡ NoWay) → (v ≡ OutOf arms to → u ≡ OutOf arms to)
    → v ≡ OutOf arms to → here_or (if x then Some (Offset offset) else None) u ≡ OutOf arms to
kept_at true offset v u arms to f g e = let none : v ≡ NoWay = f refl in cc
kept_at false offset v u arms to f g e = g e

found_at : (x y : Bool) (offset : ℕ) (label : Option Destination) → (y ≡ true → (o : ℕ) × (label ≡ Some (Offset o))) → x || y ≡ true
    → (o : ℕ) × ((if x then Some (Offset offset) else label) ≡ Some (Offset o))
found_at true y offset label f e = (offset, refl)
found_at false y offset label f e = f e

absent_at : (x y : Bool) (offset : ℕ) (label : Option Destination) → (y ≡ false → label ≡ None) → x || y ≡ false
    → (if x then Some (Offset offset) else label) ≡ None
absent_at true y offset label f e = cc
absent_at false y offset label f e = f e

in_labels : (l : ℕ) (ls : List ℕ) (s : Stmt) (es : Exits) → is_among l (labels_in (AndExit ls s es)) ≡ (is_among l ls || is_among l (labels_in es))
unfolding labels_in
in_labels l ls s es = among_both l ls (labels_in es)

no_exit : (l : ℕ) → is_among l (labels_in NoExits) ≡ true → (o : ℕ) × (label_at NoExits [] l ≡ Some (Offset o))
unfolding labels_in
no_exit l e = cc

module _ (S : Laid) where
  abbrev pub U : Coded
  U = S.names

  abbrev pub P : Coded
  P = laid S

  pub past_exits_row : (es : Exits) (z part : ℕ) (before : tree.Block) (E : Env) (w : Place) (a b d f : ℕ) → end_at E.ends part ≡ b
      → L S (past_exits es part) E w d → f ≡ d + size (past_exits es part) → f ≡ a + size before → b ≡ a + size (exits U z es before) → Onward P w b d f
  past_exits_row NoExits z part before E w a b d f at l eq here end = falls_there S w b d f (omega (arith, eq, here, end)) (omega (arith, eq))
  past_exits_row (AndExit ls s es) z part before E w a b d f at l eq here end = jumps_there S w part b E d f at l eq

  -- each statement of a label stands, and leaves the operand stack as it was
  abbrev pub ExitsStand : Scope → Exits → Type 0
  ExitsStand Γ NoExits = Unit {0}
  ExitsStand Γ (AndExit ls s es) = Keeps S s × Stands S Γ s × ExitsStand Γ es

  -- what stands before the statements of labels, where their labels are known, and these statements
  pub record Split (es : Exits) (before : tree.Block) (E : Env) (w : Place) (a b : ℕ) : Type 0 where
    pub offsets : List ℕ
    pub inner : Env
    pub ends : inner.ends ≡ E.ends
    pub lies : L S before inner w a
    pub labelled : (p : Point) (arms : ℕ) (to : Destination) → in_labelled (label_at es offsets) w.points p ≡ OutOf arms to → inner.points p ≡ OutOf arms to
    pub plain : (p : Point) (arms : ℕ) (to : Destination) → w.points p ≡ OutOf arms to → inner.points p ≡ OutOf arms to
    pub found : (l : ℕ) → is_among l (labels_in es) ≡ true → (o : ℕ) × (label_at es offsets l ≡ Some (Offset o))
    pub absent : (l : ℕ) → is_among l (labels_in es) ≡ false → label_at es offsets l ≡ None
    pub stand : ExitsCode P w es offsets b (a + size before) b

  no_label : (points further : Points Destination) → ((p : Point) (arms : ℕ) (to : Destination) → points p ≡ OutOf arms to → further p ≡ OutOf arms to)
      → (p : Point) (arms : ℕ) (to : Destination) → in_labelled (label_at NoExits []) points p ≡ OutOf arms to → further p ≡ OutOf arms to
  no_label points further f (Start n) arms to e = f (Start n) arms to e
  no_label points further f (After n) arms to e = f (After n) arms to e
  no_label points further f (At l) arms to e = f (At l) arms to e
  no_label points further f Leave arms to e = f Leave arms to e

  more_labels : (ls : List ℕ) (s : Stmt) (es : Exits) (offset : ℕ) (offsets : List ℕ) (points further : Points Destination)
      → ((p : Point) (arms : ℕ) (to : Destination) → in_labelled (label_at es offsets) points p ≡ OutOf arms to → further p ≡ OutOf arms to)
      → (p : Point) (arms : ℕ) (to : Destination) → in_labelled (label_at (AndExit ls s es) (offset ∷ offsets)) points p ≡ OutOf arms to
      → in_labelled (λ l. if is_among l ls then Some (Offset offset) else None) further p ≡ OutOf arms to
  more_labels ls s es offset offsets points further f (Start n) arms to e = f (Start n) arms to e
  more_labels ls s es offset offsets points further f (After n) arms to e = f (After n) arms to e
  more_labels ls s es offset offsets points further f (At l) arms to e =
      shown_at (is_among l ls) offset (label_at es offsets l) (points (At l)) (further (At l)) arms to (f (At l) arms to) e
  more_labels ls s es offset offsets points further f Leave arms to e = f Leave arms to e

  kept_points : (ls : List ℕ) (offset : ℕ) (points further : Points Destination) → ((l : ℕ) → is_among l ls ≡ true → points (At l) ≡ NoWay)
      → ((p : Point) (arms : ℕ) (to : Destination) → points p ≡ OutOf arms to → further p ≡ OutOf arms to)
      → (p : Point) (arms : ℕ) (to : Destination) → points p ≡ OutOf arms to
      → in_labelled (λ l. if is_among l ls then Some (Offset offset) else None) further p ≡ OutOf arms to
  kept_points ls offset points further new f (Start n) arms to e = f (Start n) arms to e
  kept_points ls offset points further new f (After n) arms to e = f (After n) arms to e
  kept_points ls offset points further new f (At l) arms to e =
      kept_at (is_among l ls) offset (points (At l)) (further (At l)) arms to (new l) (f (At l) arms to) e
  kept_points ls offset points further new f Leave arms to e = f Leave arms to e

  module _ (Γ : Scope) where
    pub exits_row : (es : Exits) → ExitsStand Γ es → (before : tree.Block) (E : Env) (w : Place) → Known Γ E.points w.points → AreFresh w.points es → (a b : ℕ)
        → L S (exits U w.slot es before) E w a → b ≡ a + size (exits U w.slot es before) → end_at E.ends 0 ≡ b → Split es before E w a b
    exits_row NoExits stand before E w known fresh a b l eq at = record {
      offsets = [];
      inner = E;
      ends = refl;
      lies = l;
      labelled = no_label w.points E.points known.shown;
      plain = known.shown;
      found = no_exit;
      absent = λ l e. refl;
      stand = subst (λ z. ExitsCode P w NoExits [] b z b) eq no_exits;
    }
    exits_row (AndExit ls s es) stand before E w known fresh a b l eq at =
        let B = block U w.slot s in
        let tail = B ▹ past_exits es 0 in
        let first = Ends (Labels ls) before ▹ tail in
        let r = exits_row es stand.2 first E (beyond (hidden s) w) known fresh.1 a b l eq at in
        let x = next S (Ends (Labels ls) before) tail r.inner w a w.depth r.lies refl in
        let c = a + size before in
        let y = next S B (past_exits es 0) r.inner w c w.depth x.1 (stand.0 w.slot w.depth) in
        let d = c + size B in
        let further = known_more Γ E.points w.points known r.inner.points r.plain in
        record {
          offsets = c ∷ r.offsets;
          inner = in_part (Labels ls) a c r.inner;
          ends = r.ends;
          lies = part_lies S (Labels ls) before r.inner w.around w.depth a x.0;
          labelled = more_labels ls s es c r.offsets w.points (r.inner).points r.labelled;
          plain = kept_points ls c w.points (r.inner).points fresh.0 r.plain;
          found = λ l e. found_at (is_among l ls) (is_among l (labels_in es)) c (label_at es r.offsets l) (r.found l) (sym (in_labels l ls s es) ∙ e);
          absent = λ l e. absent_at (is_among l ls) (is_among l (labels_in es)) c (label_at es r.offsets l) (r.absent l) (sym (in_labels l ls s es) ∙ e);
          stand = and_exit d (a + size first) (stand.1 r.inner w further c d y.0 refl)
              (past_exits_row es (w.slot + hidden s) 0 first r.inner w a b d (a + size first) (ap (λ os. end_at os 0) r.ends ∙ at) y.1 (omega arith) refl eq)
              r.stand;
        }
