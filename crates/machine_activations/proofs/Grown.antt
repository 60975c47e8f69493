-- What is shown stays shown where the region grows.
use Rattle.std.proofs.Common.{◌≡◌, ℕ, ◌+◌, ◌-◌, ◌*◌, ◌<◌, ◌≤◌, List, ◌++◌, length, take, drop, reverse, replicate, get_or, ap, ◌∙◌, arith}
use Rattle.std.proofs.lemmas.List.{length-append, length-drop, take-append-le, drop-append-le, take_at}
use Rattle.std.proofs.lemmas.Option.{slice_get-get_or}
use Rattle.std.proofs.Math.ListN.{length-replicate}
use Rattle.std.proofs.Math.Nat.{mul-le-mul_right}
use Rattle.code_forms.specs.declared.module_code.CodeEntry.{CodeEntry}
use Rattle.code_forms.specs.declared.module_code.CodeProcedure.{CodeProcedure}
use Rattle.code_forms.specs.declared.module_code.ModuleCode.{ModuleCode}
use Rattle.code_forms.proofs.Ordered.{blank, spot_within}
use Rattle.object_files.specs.declared.image.Image.{Image}
use Rattle.machine_rules.specs.State.{Active, Activations, Store, Stepped}
use Rattle.machine_topmost.specs.declared.registers.Registers.{Registers}
use Rattle.machine_topmost.specs.Flat.{part}
use Rattle.machine_activations.specs.declared.row.Layout.{Layout}
use Rattle.machine_activations.specs.declared.row.Row.{Row}
use Rattle.machine_activations.specs.Placed.{slots_from, floor_at}
use Rattle.machine_activations.specs.Below.{over}
use Rattle.machine_activations.specs.Calling.{Stands}
use Rattle.machine_activations.specs.Shows.{IsPrepared, IsAmple, Shows, with_places}
use Rattle.machine_activations.specs.Reaching.{Shown}
use Rattle.machine_activations.proofs.Called.{below_here}
use Rattle.machine_activations.proofs.Keeping.{below_same, variables_same}
use Rattle.machine_activations.proofs.Located.{in_code}
use Rattle.machine_activations.proofs.Standing.{part_within, top_part}

pub grown_part : (region more : List ℕ) (p n : ℕ) → p + n ≤ length region → part (region ++ more) p n ≡ part region p n
grown_part region more p n within =
    let left = length-drop p region in
    ap (λ x. take n x) (drop-append-le p region more (omega (arith, within))) ∙ take-append-le n (drop p region) more (omega (arith, within, left))

-- what a slice of a whole Vec leaves is the slice
pub written_back : (new old : List ℕ) (n : ℕ) → length new ≡ n → take n (new ++ drop (length new) old) ≡ new
written_back new old n many = take_at new (drop (length new) old) n many

pub grown_length : (region : List ℕ) (layout : Layout) (q : ℕ) → length (with_places region layout q) ≡ length region + ((q + 1) * layout.part - length region)
grown_length region layout q =
    let words : length {A = ℕ} (replicate ((q + 1) * layout.part - length region) 0) ≡ (q + 1) * layout.part - length region = length-replicate _ 0 in
    let both = length-append region (replicate ((q + 1) * layout.part - length region) 0) in omega (arith, words, both)

pub grown_wide : (region : List ℕ) (layout : Layout) (q : ℕ) → (q + 1) * layout.part ≤ length (with_places region layout q)
grown_wide region layout q = let l = grown_length region layout q in omega (arith, l)

pub grown_more : (region : List ℕ) (layout : Layout) (q : ℕ) → length region ≤ length (with_places region layout q)
grown_more region layout q = let l = grown_length region layout q in omega (arith, l)

pub ample_grown : (layout : Layout) (region : List ℕ) (table : List Row) (top q : ℕ) → IsAmple layout region table top → IsAmple layout (with_places region layout q) table top
ample_grown layout region table top q ample = record {
  wide = let w = ample.wide in let m = grown_more region layout q in omega (arith, w, m);
  long = ample.long;
}

pub ample_below : (layout : Layout) (region region' : List ℕ) (table table' : List Row) (top q : ℕ) → q ≤ top → length region ≤ length region' → length table' ≡ length table → IsAmple layout region table top
    → IsAmple layout region' table' q
ample_below layout region region' table table' top q low more same ample =
    let up : q + 1 ≤ top + 1 = omega (arith, low) in
    let m : (q + 1) * layout.part ≤ (top + 1) * layout.part = mul-le-mul_right layout.part up in
    record { wide = let w = ample.wide in omega (arith, w, m, more); long = same ∙ ample.long }

-- there is memory for the parts up to a place
pub room_small : (layout : Layout) (q capacity : ℕ) → q < 8192 → 8192 * layout.part ≤ capacity → (q + 1) * layout.part ≤ capacity
room_small layout q capacity low reserved =
    let m : (q + 1) * layout.part ≤ 8192 * layout.part = mul-le-mul_right layout.part (omega (arith, low)) in omega (arith, m, reserved)

module _ (image : Image) (layout : Layout) (prepared : IsPrepared image layout) (region : List ℕ) (table : List Row) (r : Registers) (ample : IsAmple layout region table r.top) (q : ℕ) where
  module _ (p : CodeProcedure) (a : Active) (S : Activations) (shows : Shows image layout region table r p a S) where
    -- the operands of the topmost activation are no more than its procedure may have
    pub operands_fit : length a.operands ≤ p.depth
    operands_fit =
        let c = in_code image layout prepared a.instance a.procedure p shows.is in
        let e : CodeEntry = get_or p.code r.entry blank in
        let there = slice_get-get_or p.code r.entry blank (spot_within p.code r.entry shows.begins.spot shows.begins.is) in
        let below = below_here image layout prepared c.code a.instance a.procedure p c.is shows.is r.entry e there in
        let deep = shows.deep e there in omega (arith, below, deep)

    pub shows_grown : Shows image layout (with_places region layout q) table r p a S
    shows_grown =
        let more : List ℕ = replicate ((q + 1) * layout.part - length region) 0 in
        let w = part_within image layout prepared region table r p a S shows ample in
        let t = top_part image layout prepared region table r p a S shows ample in
        let fits = prepared.laid a.instance a.procedure p shows.is in
        let operands = operands_fit in
        record {
          is = shows.is;
          top = shows.top;
          slots = shows.slots;
          sp = shows.sp;
          begins = shows.begins;
          deep = shows.deep;
          placed = record {
            variables = variables_same region (region ++ more) (slots_from layout (length S)) p.frame a.role
                (grown_part region more (slots_from layout (length S)) p.frame (omega (arith, fits.0, fits.1, w, t))) shows.placed.variables;
            operands = ap (λ l. reverse l) (grown_part region more (floor_at layout (length S)) (length a.operands) (omega (arith, fits.1, operands, w, t))) ∙ shows.placed.operands;
          };
          rowed = shows.rowed;
          owned = shows.owned;
          below = below_same image layout prepared.laid table region (region ++ more) (over a) S (λ k n l. grown_part region more k n (omega (arith, l, w, t))) shows.below;
        }

  pub shown_grown : (s : Stepped) (m : Store) → Shown image layout region table r s m → Shown image layout (with_places region layout q) table r s m
  shown_grown s m shown = record {
    top = shown.top;
    rest = shown.rest;
    procedure = shown.procedure;
    shows = shows_grown shown.procedure shown.top shown.rest shown.shows;
    reaches = shown.reaches;
  }

pub stands_grown : (layout : Layout) (code : ModuleCode) (region : List ℕ) (table : List Row) (r : Registers) → IsAmple layout region table r.top → (q : ℕ) → Stands code layout region table r
    → Stands code layout (with_places region layout q) table r
stands_grown layout code region table r ample q stands = record {
  image = stands.image;
  prepared = stands.prepared;
  is = stands.is;
  start = stands.start;
  unstuck = stands.unstuck;
  store = stands.store;
  shown = shown_grown stands.image layout stands.prepared region table r ample q stands.start stands.store stands.shown;
}
