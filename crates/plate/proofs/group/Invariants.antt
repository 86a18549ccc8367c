use Rattle.plate.specs.Plate.{plate_on}
use Rattle.plate.proofs.Turns.{Plating}
use Rattle.plate.proofs.group.Given as goal

abbrev pub invariant-loop-i : goal.invariant-loop-i
invariant-loop-i l = Plating l.rate l.n (plate_on l.initial.plate l.initial.part) l.initial.left (plate_on l.plate l.part) l.left l.right l.i
