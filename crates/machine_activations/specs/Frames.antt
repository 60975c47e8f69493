-- What making and giving up a frame does to the region and the table (rule of this project).
use Rattle.std.specs.Prelude.{ℕ, ◌+◌, ◌-◌, ◌*◌, List, replicate, slice_get, slice_set, Option, Some, None}
use Rattle.machine_topmost.specs.declared.registers.Registers.{Registers}
use Rattle.machine_topmost.specs.Flat.{part, with_part}
use Rattle.machine_activations.specs.declared.row.Kind.{Kind}
use Rattle.machine_activations.specs.declared.row.Kind.TheVariants.{Frame, Arm}
use Rattle.machine_activations.specs.declared.row.Layout.{Layout}
use Rattle.machine_activations.specs.declared.row.Row.{Row}

-- the arguments, moved from the end of the operands, and zeros
abbrev pub entered : List ℕ → Registers → Layout → (args frame : ℕ) → List ℕ
entered region r layout args frame =
    with_part (with_part region ((r.top + 1) * layout.part) (part region (r.sp - args) args)) ((r.top + 1) * layout.part + args) (replicate (frame - args) 0)

abbrev pub frame_row : (instance procedure : ℕ) → Row
frame_row instance procedure = record { instance = instance; procedure = procedure; entry = 0; count = 0; kind = Frame }

unfoldable pub row_in : Option Row → Row
row_in None = frame_row 0 0
row_in (Some row) = row

-- the row of a place
abbrev pub row_at : List Row → (place : ℕ) → Row
row_at table q = row_in (slice_get table q)

-- an activation waits, without so many of its operands
abbrev pub waiting : Row → Registers → Layout → (args : ℕ) → Row
waiting row r layout args = record {
  instance = row.instance;
  procedure = row.procedure;
  entry = r.entry;
  count = r.sp - args - (r.top * layout.part + layout.frame);
  kind = row.kind;
}

-- the rows with one more
abbrev pub with_frame : List Row → Registers → Layout → (args instance procedure : ℕ) → List Row
with_frame table r layout args instance procedure =
    slice_set (slice_set table r.top (waiting (row_at table r.top) r layout args)) (r.top + 1) (frame_row instance procedure)

abbrev pub frame_registers : Registers → Layout → Registers
frame_registers r layout =
    record { top = r.top + 1; slots = (r.top + 1) * layout.part; sp = (r.top + 1) * layout.part + layout.frame; entry = 0 }

-- the place of the frame of an activation
unfoldable pub owner_place : Kind → (place : ℕ) → ℕ
owner_place Frame q = q
owner_place (Arm own arm reason) q = own

-- the activation at a place, as its row tells, goes on at an entry with so many words more
abbrev pub back_registers : Row → (place : ℕ) → Layout → (more entry : ℕ) → Registers
back_registers row q layout more entry = record {
  top = q;
  slots = owner_place row.kind q * layout.part;
  sp = q * layout.part + layout.frame + row.count + more;
  entry = entry;
}

-- where the next operand of the activation at a place goes
abbrev pub end_at : Row → (place : ℕ) → Layout → ℕ
end_at row q layout = q * layout.part + layout.frame + row.count
