-- What is ready has room for what it does, and stays ready with the stack that comes of it.
use Rattle.std.proofs.Common.{◌≡◌, ℕ, ◌<◌, ◌≤◌, List, Bool, ◌*◌, length, refl, ap, ◌∙◌, arith, vec_capacity}
use Rattle.std.specs.Prelude.{IsSomeAnd, slice_get}
use Rattle.std.specs.declared.alloc.Global.{Global}
use Rattle.std.specs.declared.vec.Vec.{Vec}
use Rattle.object_files.specs.declared.image.Image.{Image}
use Rattle.machine_rules.specs.LookUps.{code_of}
use Rattle.machine_rules.specs.Steps.{globals_in}
use Rattle.machine_topmost.specs.declared.registers.Registers.{Registers}
use Rattle.machine_activations.specs.declared.calling.Sequel.{Sequel}
use Rattle.machine_activations.specs.declared.calling.Sequel.TheVariants.{Goes, Empty, Pending, Ends}
use Rattle.machine_activations.specs.declared.row.Layout.{Layout}
use Rattle.machine_activations.specs.declared.row.Row.{Row}
use Rattle.machine_activations.specs.declared.stack.Stack.{Stack}
use Rattle.machine_activations.specs.Calling.{IsAmpleFor}
use Rattle.machine_activations.specs.Shows.{IsAmple}
use Rattle.machine_activations.specs.Stacks.{HasRoom, KeepsRoom, KeepsRows, on}
use Rattle.machine_calls.specs.declared.linking.LinkSequel.{LinkSequel}
use Rattle.machine_calls.specs.declared.linking.LinkSequel.TheVariants.{Done, Host}
use Rattle.machine_calls.specs.Linking.{IsAmpleForLink, KeepsRoomForLink}
use Rattle.machine_ready.specs.declared.prepared.Prepared.{Prepared}
use Rattle.machine_ready.specs.Ready.{IsReady}
use Rattle.machine_ready.proofs.Preparing.{ready_is_prepared}
use Rattle.machine_signals.specs.Indexed.{AreTables}

pub same_items : (v w : Vec Row Global) → v ≡ w → v.items ≡ w.items
same_items v w e = ap (λ (x : Vec Row Global). x.items) e

long_for : (layout : Layout) (region : List ℕ) (table : List Row) (sequel : Sequel) → IsAmpleFor layout region table sequel → length table ≡ 8192
long_for layout region table (Goes r) ample = ample.long
long_for layout region table Empty long = long
long_for layout region table (Pending r) ample = ample.long
long_for layout region table (Ends end) long = long

long_for_link : (layout : Layout) (region : List ℕ) (table : List Row) (r : Registers) (sequel : LinkSequel) → IsAmpleForLink layout region table r sequel → length table ≡ 8192
long_for_link layout region table r (Done sequel) ample = long_for layout region table sequel ample
long_for_link layout region table r (Host h) ample = ample.long

module _ (image : Image) (p : Prepared) (ready : IsReady image p) where
  pub tables_of : AreTables image p.stack.layout p.tables
  tables_of = record { prepared = ready_is_prepared image p ready; planned = ready.plans; links = ready.links }

  pub room_of : (top : ℕ) → on p.stack IsAmple top → HasRoom p.stack top
  room_of top ample = record { ample = ample; reserved = ready.region }

  -- with another stack, and other marks
  module _ (marks : Vec Bool Global) (many : length marks.items ≡ length p.started.items) (s : Stack) (layout : s.layout ≡ p.stack.layout)
      (more : vec_capacity p.stack.region ≤ vec_capacity s.region) (long : length s.rows.items ≡ 8192) where
    pub ready_so : IsReady image (record p { started = marks; stack = s })
    ready_so = record {
      order = ready.order;
      host = ready.host;
      plans = ready.plans;
      links = ready.links;
      all_globals = ready.all_globals;
      globals = ready.globals;
      started = many ∙ ready.started;
      frame = ap (λ (l : Layout). l.frame) layout ∙ ready.frame;
      part = let a = ap (λ (l : Layout). l.part) layout in let b = ap (λ (l : Layout). l.frame) layout in let c = ready.part in omega (arith, a, b, c);
      region = let w = ap (λ (l : Layout). 8192 * l.part) layout in let k = ready.region in omega (arith, w, k, more);
      rows = long;
    }

  pub ready_then : (s : Stack) (sequel : Sequel) → KeepsRoom p.stack s sequel → IsReady image (record p { stack = s })
  ready_then s sequel room =
      ready_so p.started refl s room.same_layout room.reserved (long_for s.layout s.region.items s.rows.items sequel room.ample)

  pub ready_marked : (marks : Vec Bool Global) → length marks.items ≡ length p.started.items → (s : Stack) (sequel : Sequel) → KeepsRoom p.stack s sequel
      → IsReady image (record p { started = marks; stack = s })
  ready_marked marks many s sequel room =
      ready_so marks many s room.same_layout room.reserved (long_for s.layout s.region.items s.rows.items sequel room.ample)

  pub ready_linked : (marks : Vec Bool Global) → length marks.items ≡ length p.started.items → (s : Stack) (r : Registers) (sequel : LinkSequel) → KeepsRoomForLink p.stack s r sequel
      → IsReady image (record p { started = marks; stack = s })
  ready_linked marks many s r sequel room =
      ready_so marks many s room.same_layout room.reserved (long_for_link s.layout s.region.items s.rows.items r sequel room.ample)

  -- with the words of a region and other globals
  pub ready_run : (s : Stack) → KeepsRows p.stack s → (globals : Vec (Vec ℕ Global) Global) → length globals.items ≡ length p.globals.items
      → ((j : ℕ) → j < length image.instances → IsSomeAnd (slice_get globals.items j) (λ words. length words.items ≡ globals_in (code_of image j)))
      → IsReady image (record p { globals = globals; stack = s })
  ready_run s keeps globals many each = record {
    order = ready.order;
    host = ready.host;
    plans = ready.plans;
    links = ready.links;
    all_globals = many ∙ ready.all_globals;
    globals = each;
    started = ready.started;
    frame = ap (λ (l : Layout). l.frame) keeps.same_layout ∙ ready.frame;
    part = let a = ap (λ (l : Layout). l.part) keeps.same_layout in let b = ap (λ (l : Layout). l.frame) keeps.same_layout in let c = ready.part in omega (arith, a, b, c);
    region = let w = ap (λ (l : Layout). 8192 * l.part) keeps.same_layout in let k = ready.region in let more = keeps.reserved in omega (arith, w, k, more);
    rows = ap (λ (x : List Row). length x) (same_items s.rows p.stack.rows keeps.rows) ∙ ready.rows;
  }
