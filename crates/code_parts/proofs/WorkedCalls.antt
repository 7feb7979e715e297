-- Worked values: small programs at 0x10000, what their functions call, and which of these call themselves.
use Rattle.std.proofs.Common.{◌≡◌, ℕ, List, [], ◌∷◌, true, Some, None, Err, refl, sym, subst}
use Rattle.std.specs.List.{Contains}
use Rattle.rv_words.specs.Bytes.{Bytes}
use Rattle.rv_decode.specs.Decodes.{decoded}
use Rattle.flow_graph.specs.Flow.{look, next}
use Rattle.flow_graph.specs.Walks.{Leave, Stop}
use Rattle.flow_graph.specs.declared.outside.Outside.TheVariants.{Environment}
use Rattle.flow_graph.proofs.WorkedGraphs.{program}
use Rattle.code_parts.specs.Calls.{CallsBack, CallsTo, call_at}
use Rattle.code_parts.specs.Causes.{IsFaulty}
use Rattle.code_parts.proofs.Counting.{first_in}

-- a function that calls itself
abbrev alone : Bytes
alone = program (0x000000ef ∷ 0x00008067 ∷ [])

alone-0 : call_at alone 0x10000 ≡ Some 0x10000
unfolding look decoded
alone-0 = refl

alone-4 : call_at alone 0x10004 ≡ None
unfolding look decoded
alone-4 = refl

alone-back : CallsBack alone 0x10000
alone-back = record { callee = 0x10000; calls = record { at = 0x10000; reached = Stop; calls = alone-0 }; back = Stop }

-- two functions that call each other
abbrev each_other : Bytes
each_other = program (0x008000ef ∷ 0x00008067 ∷ 0xff9ff0ef ∷ 0x00008067 ∷ [])

each_other-0 : call_at each_other 0x10000 ≡ Some 0x10008
unfolding look decoded
each_other-0 = refl

each_other-8 : call_at each_other 0x10008 ≡ Some 0x10000
unfolding look decoded
each_other-8 = refl

there : CallsTo each_other 0x10000 0x10008
there = record { at = 0x10000; reached = Stop; calls = each_other-0 }

back : CallsTo each_other 0x10008 0x10000
back = record { at = 0x10008; reached = Stop; calls = each_other-8 }

each_other-back : CallsBack each_other 0x10000
each_other-back = record { callee = 0x10008; calls = there; back = Leave tt back Stop }

each_other-again : CallsBack each_other 0x10008
each_other-again = record { callee = 0x10000; calls = back; back = Leave tt there Stop }

-- a function whose callee calls itself behind its first instruction
abbrev callee_alone : Bytes
callee_alone = program (0x008000ef ∷ 0x00008067 ∷ 0x00008313 ∷ 0xffdff0ef ∷ 0x00008067 ∷ [])

callee_alone-0 : call_at callee_alone 0x10000 ≡ Some 0x10008
unfolding look decoded
callee_alone-0 = refl

callee_alone-8 : next true callee_alone 0x10008 ≡ 0x1000c ∷ []
unfolding look decoded
callee_alone-8 = refl

callee_alone-c : call_at callee_alone 0x1000c ≡ Some 0x10008
unfolding look decoded
callee_alone-c = refl

callee_alone-back : CallsBack callee_alone 0x10008
callee_alone-back = record {
  callee = 0x10008;
  calls = record { at = 0x1000c; reached = Leave tt (subst (λ (xs : List ℕ). Contains xs 0x1000c) (sym callee_alone-8) (first_in 0x1000c [])) Stop; calls = callee_alone-c };
  back = Stop;
}

-- a function whose callee has a fault
abbrev faulty : Bytes
faulty = program (0x008000ef ∷ 0x00008067 ∷ 0x00000073 ∷ [])

faulty-0 : call_at faulty 0x10000 ≡ Some 0x10008
unfolding look decoded
faulty-0 = refl

faulty-8 : look true faulty 0x10008 ≡ Err (Environment 0x10008)
unfolding look decoded
faulty-8 = refl

faulty-callee : IsFaulty faulty 0x10000 0x10008
faulty-callee = record {
  function = 0x10008;
  is = Leave tt (record { at = 0x10000; reached = Stop; calls = faulty-0 }) Stop;
  reached = Stop;
  why = Environment 0x10008;
  fault = faulty-8;
}
