-- The marked cases hold at 44,100 Hz. Assumes nothing.
use Rattle.stream.specs.Cases.{case_a}
use Rattle.ramp.specs.Cases.{case_b, case_c, case_d}
use Rattle.automation.specs.Cases.{case_e, case_f, case_ties, case_g}
use Rattle.sidechain.specs.Cases.{case_h}
use Rattle.delay.specs.Cases.{case_i}
use Rattle.rate.specs.Ceiling.{ceiling_rate}
use Rattle.master.proofs.Cases.{case_j, case_k}
use Rattle.strip.specs.Cases.{Cases}

pub cases : Cases (ceiling_rate 44100)
cases = record { a = case_a; b = case_b; c = case_c; d = case_d; e = case_e; f = case_f; ties = case_ties; g = case_g; h = case_h; i = case_i; j = case_j; k = case_k }
