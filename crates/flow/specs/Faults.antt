-- The number and the place of each refusal of a flow.
use Rattle.std.specs.Prelude.{ℕ}
use Rattle.flow.specs.declared.faults.FillFault.{FillFault}
use Rattle.flow.specs.declared.faults.FillFault.TheVariants.{Sizes, Bounds, NoMove, Target, NoStart}
use Rattle.flow.specs.declared.faults.RowFault.{RowFault}
use Rattle.flow.specs.declared.faults.RowFault.TheVariants.{Seats}

abbrev pub fill_number : FillFault → ℕ
fill_number Sizes = 11
fill_number (Bounds p) = 12
fill_number (NoMove p) = 13
fill_number (Target p) = 14
fill_number NoStart = 15

-- the state or the index that the case carries; 0 where the fault is one of a table as a whole
abbrev pub fill_place : FillFault → ℕ
fill_place Sizes = 0
fill_place (Bounds p) = p
fill_place (NoMove p) = p
fill_place (Target p) = p
fill_place NoStart = 0

abbrev pub row_number : RowFault → ℕ
row_number Seats = 16
