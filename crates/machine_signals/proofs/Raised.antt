-- Where a raise leads: the topmost activation waits, and its signal looks for an arm.
use Rattle.std.proofs.Common.{◌≡◌, ℕ, zero, suc, ◌+◌, ◌-◌, ◌*◌, ◌<◌, ◌≤◌, List, ◌∷◌, length, true, refl, sym, ap, subst, ◌∙◌, arith}
use Rattle.std.proofs.lemmas.Bool.{ne_eqb}
use Rattle.std.proofs.lemmas.Option.{same_Some, slice_get_within}
use Rattle.code_forms.specs.declared.module_code.CodeProcedure.{CodeProcedure}
use Rattle.object_files.specs.declared.image.Image.{Image}
use Rattle.signaller.specs.declared.search.Search.{Search}
use Rattle.signaller.specs.declared.signal_id.SignalId.{SignalId}
use Rattle.machine_rules.specs.declared.end.End.TheVariants.{Spent}
use Rattle.machine_rules.specs.State.{Active, Activations, Store, Seeks, Ended, Stepped, Goes, Stops}
use Rattle.machine_rules.specs.Words.{popped}
use Rattle.machine_rules.specs.Activations.{activation_at}
use Rattle.machine_rules.specs.Moves.{spend_of, spend}
use Rattle.machine_rules.specs.Signals.{around, raise}
use Rattle.machine_rules.specs.Steps.{Ends, stops, raise_with}
use Rattle.machine_topmost.specs.declared.registers.Registers.{Registers}
use Rattle.machine_topmost.specs.Flat.{part}
use Rattle.machine_activations.specs.declared.row.Layout.{Layout}
use Rattle.machine_activations.specs.declared.row.Row.{Row}
use Rattle.machine_activations.specs.Below.{Raised, Below}
use Rattle.machine_activations.specs.Frames.{row_at}
use Rattle.machine_activations.specs.Shows.{IsPrepared, IsAmple}
use Rattle.machine_activations.proofs.Following.{spent_by}
use Rattle.machine_activations.proofs.Homes.{at_top}
use Rattle.machine_signals.specs.Arms.{with_waiting}
use Rattle.machine_signals.specs.Indexed.{BeginsThere, IsRead, IsAsked}
use Rattle.machine_signals.specs.Raising.{Raises}
use Rattle.machine_signals.specs.Seeking.{Seeking}
use Rattle.machine_signals.proofs.Places.{place_at, at_asked}
use Rattle.machine_signals.proofs.Seeks.{around_is}
use Rattle.machine_signals.proofs.Waiting.{raiser_of, operands_fit, args_there, raiser_below}
use Rattle.machine_activations.proofs.Reach.{reaches_so, ends_alike}

module _ (image : Image) (layout : Layout) (prepared : IsPrepared image layout) (region : List ℕ) (table : List Row) (r : Registers) (signal : SignalId) (args : ℕ)
    (ample : IsAmple layout region table r.top) (s : Stepped) (m : Store) (w : Raises image layout region table r signal args s m) where
  abbrev a : Active
  a = w.top

  abbrev S : Activations
  S = w.rest

  abbrev p : CodeProcedure
  p = w.procedure

  abbrev raiser : Active
  raiser = raiser_of args a

  abbrev given : List ℕ
  given = popped args a.operands

  abbrev rows_then : List Row
  rows_then = with_waiting table r layout args

  top_at : r.top * layout.part ≡ length S * layout.part
  top_at = ap (λ q. q * layout.part) w.shows.top

  full : r.sp ≤ length region
  full =
      let sp = w.shows.sp in let t = top_at in let wide = ample.wide in
      let o = operands_fit image layout prepared region table r p a S w.shows in
      let l = prepared.laid a.instance a.procedure p w.shows.is in omega (arith, sp, t, wide, o, l.1)

  pub row_low : r.top < length table
  row_low = let l = slice_get_within table (length S) w.shows.rowed.row w.shows.rowed.there in let t = w.shows.top in omega (arith, l, t)

  pub operands_low : r.top * layout.part + layout.frame + args ≤ r.sp
  operands_low = let sp = w.shows.sp in let t = top_at in let e = w.enough in omega (arith, sp, t, e)

  pub all_wait : Below image layout region rows_then (Raised signal given) (raiser ∷ S)
  all_wait = raiser_below image layout prepared region table r p a S w.shows full row_low signal args w.enough w.waits

  pub each_asked : (q : ℕ) → q ≤ r.top → IsAsked image rows_then q
  each_asked q low =
      let t = w.shows.top in
      at_asked image layout region rows_then (raiser ∷ S) q
      (place_at image layout region rows_then (Raised signal given) (raiser ∷ S) q all_wait (omega (arith, t, low)))

  pub top_read : IsRead image (row_at rows_then r.top)
  top_read = (each_asked r.top (omega arith)).read

  abbrev then_seeks : Store → Stepped
  then_seeks m1 = Goes (Seeks signal given (length S) (around image raiser) (raiser ∷ S) m1)

  raises_so : raise_with image signal args a S m ≡ spend_of m.turns m then_seeks
  unfolding raise_with raise spend
  raises_so = refl

  none_left : (n : ℕ) (k : Store → Stepped) → n ≡ 0 → spend_of n m k ≡ Stops (Ended Spent) m
  unfolding spend_of
  none_left zero k none = refl
  none_left (suc n) k none = absurd (omega (arith, none))

  pub raise_spent : m.turns ≡ 0 → Ends image s (Ended Spent) m
  raise_spent none =
      ends_alike image _ _ w.reaches (Ended Spent) m (subst (λ x. Ends image x (Ended Spent) m) (sym (raises_so ∙ none_left m.turns then_seeks none)) (stops (Ended Spent) m))

  abbrev spent : Store
  spent = record m { turns = m.turns - 1 }

  search_is : (search : Search) → BeginsThere image true (row_at rows_then r.top) search → around image raiser ≡ search
  search_is search begins =
      let t = w.shows.top in
      let b = around_is image layout region rows_then (Raised signal given) (raiser ∷ S) all_wait r.top (omega (arith, t)) search begins in
      let same : b.0 ≡ raiser = same_Some b.0 raiser (sym b.1 ∙ ap (λ q. activation_at (raiser ∷ S) q) t ∙ at_top raiser S) in
      ap (λ (x : Active). around image x) (sym same) ∙ b.2

  -- the arguments stand above the operands that it keeps
  pub args_stand : (part region (r.sp - args) args ≡ given) × (r.sp - args + args ≤ length region)
  args_stand =
      let o = operands_low in let f = full in
      (args_there image layout prepared region table r p a S w.shows full row_low signal args w.enough w.waits, omega (arith, o, f))

  pub raise_seeks : (m.turns ≡ 0 → ⊥) → (search : Search) → BeginsThere image true (row_at rows_then r.top) search
      → Seeking image layout region rows_then r.top signal (r.sp - args) args r.top search s spent
  raise_seeks some search begins =
      let t = w.shows.top in
      let so : raise_with image signal args a S m ≡ Goes (Seeks signal given r.top search (raiser ∷ S) spent) =
      raises_so ∙ spent_by m.turns m then_seeks (ne_eqb m.turns 0 some)
      ∙ ap (λ q. Goes (Seeks signal given q (around image raiser) (raiser ∷ S) spent)) (sym t)
      ∙ ap (λ n. Goes (Seeks signal given r.top n (raiser ∷ S) spent)) (search_is search begins) in
      record {
        activations = raiser ∷ S;
        args = given;
        below = all_wait;
        high = omega (arith, t);
        low = omega arith;
        source = args_stand.0;
        inside = args_stand.1;
        reaches = reaches_so image _ _ _ w.reaches so;
      }
