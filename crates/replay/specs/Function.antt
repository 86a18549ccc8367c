-- The functions' names in the list.
use Rattle.std.specs.Prelude.{ℕ, List, codes}
use Rattle.replay.specs.declared.function.Function.{Function}
use Rattle.replay.specs.declared.function.Function.TheVariants.{Sin, Cos, Exp, Ln, Pow, Tanh, Sinh, SinF32, PowF32, Widen, Narrow, Floor, Whole}

abbrev pub letters_of : Function → List ℕ
letters_of Sin = codes "sin"
letters_of Cos = codes "cos"
letters_of Exp = codes "exp"
letters_of Ln = codes "ln"
letters_of Pow = codes "pow"
letters_of Tanh = codes "tanh"
letters_of Sinh = codes "sinh"
letters_of SinF32 = codes "sin32"
letters_of PowF32 = codes "pow32"
letters_of Widen = codes "widen"
letters_of Narrow = codes "narrow"
letters_of Floor = codes "floor"
letters_of Whole = codes "whole"
