-- What the values of a run are.
use Rattle.std.specs.Prelude.{Bool, Option, Some, None, ℤ, List, map}
use Rattle.ada_values.specs.Value.{Val, number, truth, array, record_of, Vals, vals_of}
use Rattle.run_values.specs.declared.values.RunValue.{RunValue, fold-RunValue}
use Rattle.run_values.specs.declared.values.RunValue.TheOpen.{RunValue-F}

abbrev pub run_value_step : RunValue-F Val → Val
run_value_step (RunValue-F.Int n) = number n
run_value_step (RunValue-F.Bool b) = truth b
run_value_step (RunValue-F.Arr a) = array a.first a.last (vals_of a.items)
run_value_step (RunValue-F.Rec vs) = record_of (vals_of vs)

-- the value that the code's value is
abbrev pub run_value : RunValue → Val
run_value = fold-RunValue Val run_value_step

abbrev pub run_values : List RunValue → Vals
run_values vs = vals_of (map run_value vs)

abbrev pub truth_in : Val → Option Bool
truth_in (truth b) = Some b
truth_in _ = None

abbrev pub number_in : Val → Option ℤ
number_in (number x) = Some x
number_in _ = None
