use lib.Seq.{length-take-le}
use mathlib.Core.Path.{sym}
use Rattle.chain.specs.declared.Stopped.{Stopped}
use Rattle.chain.proofs.StoppedLaws.{went_on, stopped}
use Rattle.chain.proofs.ChainLaws.{chain_cases, started, encode_refused, encoded, tokens_among, evaluate_refused, evaluated, wires_among, outputs_refused, gathered, outputs_among, chain_ended}
use Rattle.chain.proofs.chain.Goals as goal

pub returns-in_err-made : goal.returns-in_err-made
returns-in_err-made c =
    let by = stopped Stopped.Garble c.map_err.ensures.cases c.in_err-made.was c.from_residual.ensures.1 in
    rw by.answered (search (chain_cases, by.refused))

pub returns-in_err-z : goal.returns-in_err-z
returns-in_err-z c =
    let by = stopped Stopped.Garble c.map_err-2.ensures.cases c.in_err-z.was c.from_residual-in_err-z.ensures.1 in
    rw by.answered (search (chain_cases, by.refused, went_on Stopped.Garble c.map_err.ensures.cases c.in_ok-made.was))

pub slice_bounds-file-end : goal.slice_bounds-file-end
slice_bounds-file-end c =
    search (chain_cases, went_on Stopped.Garble c.map_err.ensures.cases c.in_ok-made.was)

pub slice_bounds-file-end-2 : goal.slice_bounds-file-end-2
slice_bounds-file-end-2 c =
    sym (length-take-le _ _ (search (chain_cases, went_on Stopped.Garble c.map_err.ensures.cases c.in_ok-made.was)))

pub overflow_mul-inputs : goal.overflow_mul-inputs
overflow_mul-inputs c =
    search (chain_cases, went_on Stopped.Garble c.map_err-2.ensures.cases c.in_ok-z.was)

pub slice_bounds-encode-end : goal.slice_bounds-encode-end
slice_bounds-encode-end c =
    let at = started c.garble.ensures (went_on Stopped.Garble c.map_err.ensures.cases c.in_ok-made.was) c.check.ensures (went_on Stopped.Garble c.map_err-2.ensures.cases c.in_ok-z.was) in
    at.all_zeros

pub slice_bounds-encode-end-2 : goal.slice_bounds-encode-end-2
slice_bounds-encode-end-2 c =
    let at = started c.garble.ensures (went_on Stopped.Garble c.map_err.ensures.cases c.in_ok-made.was) c.check.ensures (went_on Stopped.Garble c.map_err-2.ensures.cases c.in_ok-z.was) in
    sym (length-take-le _ _ at.all_zeros)

pub slice_bounds-encode-end-3 : goal.slice_bounds-encode-end-3
slice_bounds-encode-end-3 c =
    let at = started c.garble.ensures (went_on Stopped.Garble c.map_err.ensures.cases c.in_ok-made.was) c.check.ensures (went_on Stopped.Garble c.map_err-2.ensures.cases c.in_ok-z.was) in
    at.all_ones

pub slice_bounds-encode-end-4 : goal.slice_bounds-encode-end-4
slice_bounds-encode-end-4 c =
    let at = started c.garble.ensures (went_on Stopped.Garble c.map_err.ensures.cases c.in_ok-made.was) c.check.ensures (went_on Stopped.Garble c.map_err-2.ensures.cases c.in_ok-z.was) in
    sym (length-take-le _ _ at.all_ones)

pub returns-in_err-map_err : goal.returns-in_err-map_err
returns-in_err-map_err c =
    let at = started c.garble.ensures (went_on Stopped.Garble c.map_err.ensures.cases c.in_ok-made.was) c.check.ensures (went_on Stopped.Garble c.map_err-2.ensures.cases c.in_ok-z.was) in
    let by = stopped Stopped.Encode c.map_err-3.ensures.cases c.in_err-map_err.was c.from_residual-in_err-map_err.ensures.1 in
    rw by.answered (encode_refused at c.encode.ensures _ by.refused _ _ _)

pub slice_bounds-evaluate-end : goal.slice_bounds-evaluate-end
slice_bounds-evaluate-end c =
    let at = started c.garble.ensures (went_on Stopped.Garble c.map_err.ensures.cases c.in_ok-made.was) c.check.ensures (went_on Stopped.Garble c.map_err-2.ensures.cases c.in_ok-z.was) in
    let encode_ran = encoded at c.encode.ensures (went_on Stopped.Encode c.map_err-3.ensures.cases c.in_ok-map_err.was) in
    tokens_among at encode_ran

pub slice_bounds-evaluate-end-2 : goal.slice_bounds-evaluate-end-2
slice_bounds-evaluate-end-2 c =
    let at = started c.garble.ensures (went_on Stopped.Garble c.map_err.ensures.cases c.in_ok-made.was) c.check.ensures (went_on Stopped.Garble c.map_err-2.ensures.cases c.in_ok-z.was) in
    let encode_ran = encoded at c.encode.ensures (went_on Stopped.Encode c.map_err-3.ensures.cases c.in_ok-map_err.was) in
    sym (length-take-le _ _ (tokens_among at encode_ran))

pub returns-in_err-map_err-2 : goal.returns-in_err-map_err-2
returns-in_err-map_err-2 c =
    let at = started c.garble.ensures (went_on Stopped.Garble c.map_err.ensures.cases c.in_ok-made.was) c.check.ensures (went_on Stopped.Garble c.map_err-2.ensures.cases c.in_ok-z.was) in
    let encode_ran = encoded at c.encode.ensures (went_on Stopped.Encode c.map_err-3.ensures.cases c.in_ok-map_err.was) in
    let by = stopped Stopped.Evaluate c.map_err-4.ensures.cases c.in_err-map_err-2.was c.from_residual-in_err-map_err-2.ensures.1 in
    rw by.answered (evaluate_refused at encode_ran c.evaluate.ensures _ by.refused _ _)

pub overflow_add-z : goal.overflow_add-z
overflow_add-z c =
    search (chain_cases, went_on Stopped.Garble c.map_err-2.ensures.cases c.in_ok-z.was)

pub overflow_mul-z : goal.overflow_mul-z
overflow_mul-z c =
    search (chain_cases, went_on Stopped.Garble c.map_err-2.ensures.cases c.in_ok-z.was)

pub slice_bounds-output_tokens-end : goal.slice_bounds-output_tokens-end
slice_bounds-output_tokens-end c =
    let at = started c.garble.ensures (went_on Stopped.Garble c.map_err.ensures.cases c.in_ok-made.was) c.check.ensures (went_on Stopped.Garble c.map_err-2.ensures.cases c.in_ok-z.was) in
    let encode_ran = encoded at c.encode.ensures (went_on Stopped.Encode c.map_err-3.ensures.cases c.in_ok-map_err.was) in
    let evaluate_ran = evaluated at encode_ran c.evaluate.ensures (went_on Stopped.Evaluate c.map_err-4.ensures.cases c.in_ok-map_err-2.was) in
    wires_among at encode_ran evaluate_ran

pub slice_bounds-output_tokens-end-2 : goal.slice_bounds-output_tokens-end-2
slice_bounds-output_tokens-end-2 c =
    let at = started c.garble.ensures (went_on Stopped.Garble c.map_err.ensures.cases c.in_ok-made.was) c.check.ensures (went_on Stopped.Garble c.map_err-2.ensures.cases c.in_ok-z.was) in
    let encode_ran = encoded at c.encode.ensures (went_on Stopped.Encode c.map_err-3.ensures.cases c.in_ok-map_err.was) in
    let evaluate_ran = evaluated at encode_ran c.evaluate.ensures (went_on Stopped.Evaluate c.map_err-4.ensures.cases c.in_ok-map_err-2.was) in
    sym (length-take-le _ _ (wires_among at encode_ran evaluate_ran))

pub returns-in_err-map_err-3 : goal.returns-in_err-map_err-3
returns-in_err-map_err-3 c =
    let at = started c.garble.ensures (went_on Stopped.Garble c.map_err.ensures.cases c.in_ok-made.was) c.check.ensures (went_on Stopped.Garble c.map_err-2.ensures.cases c.in_ok-z.was) in
    let encode_ran = encoded at c.encode.ensures (went_on Stopped.Encode c.map_err-3.ensures.cases c.in_ok-map_err.was) in
    let evaluate_ran = evaluated at encode_ran c.evaluate.ensures (went_on Stopped.Evaluate c.map_err-4.ensures.cases c.in_ok-map_err-2.was) in
    let by = stopped Stopped.Outputs c.map_err-5.ensures.cases c.in_err-map_err-3.was c.from_residual-in_err-map_err-3.ensures.1 in
    rw by.answered (outputs_refused at encode_ran evaluate_ran c.output_tokens.ensures _ by.refused _)

pub overflow_mul-z-2 : goal.overflow_mul-z-2
overflow_mul-z-2 c =
    search (chain_cases, went_on Stopped.Garble c.map_err-2.ensures.cases c.in_ok-z.was)

pub slice_bounds-decode-end : goal.slice_bounds-decode-end
slice_bounds-decode-end c =
    let at = started c.garble.ensures (went_on Stopped.Garble c.map_err.ensures.cases c.in_ok-made.was) c.check.ensures (went_on Stopped.Garble c.map_err-2.ensures.cases c.in_ok-z.was) in
    let encode_ran = encoded at c.encode.ensures (went_on Stopped.Encode c.map_err-3.ensures.cases c.in_ok-map_err.was) in
    let evaluate_ran = evaluated at encode_ran c.evaluate.ensures (went_on Stopped.Evaluate c.map_err-4.ensures.cases c.in_ok-map_err-2.was) in
    let outputs_ran = gathered at encode_ran evaluate_ran c.output_tokens.ensures (went_on Stopped.Outputs c.map_err-5.ensures.cases c.in_ok-map_err-3.was) in
    outputs_among at encode_ran evaluate_ran outputs_ran

pub slice_bounds-decode-end-2 : goal.slice_bounds-decode-end-2
slice_bounds-decode-end-2 c =
    let at = started c.garble.ensures (went_on Stopped.Garble c.map_err.ensures.cases c.in_ok-made.was) c.check.ensures (went_on Stopped.Garble c.map_err-2.ensures.cases c.in_ok-z.was) in
    let encode_ran = encoded at c.encode.ensures (went_on Stopped.Encode c.map_err-3.ensures.cases c.in_ok-map_err.was) in
    let evaluate_ran = evaluated at encode_ran c.evaluate.ensures (went_on Stopped.Evaluate c.map_err-4.ensures.cases c.in_ok-map_err-2.was) in
    let outputs_ran = gathered at encode_ran evaluate_ran c.output_tokens.ensures (went_on Stopped.Outputs c.map_err-5.ensures.cases c.in_ok-map_err-3.was) in
    sym (length-take-le _ _ (outputs_among at encode_ran evaluate_ran outputs_ran))

pub returns : goal.returns
returns c =
    let at = started c.garble.ensures (went_on Stopped.Garble c.map_err.ensures.cases c.in_ok-made.was) c.check.ensures (went_on Stopped.Garble c.map_err-2.ensures.cases c.in_ok-z.was) in
    let encode_ran = encoded at c.encode.ensures (went_on Stopped.Encode c.map_err-3.ensures.cases c.in_ok-map_err.was) in
    let evaluate_ran = evaluated at encode_ran c.evaluate.ensures (went_on Stopped.Evaluate c.map_err-4.ensures.cases c.in_ok-map_err-2.was) in
    let outputs_ran = gathered at encode_ran evaluate_ran c.output_tokens.ensures (went_on Stopped.Outputs c.map_err-5.ensures.cases c.in_ok-map_err-3.was) in
    chain_ended at encode_ran evaluate_ran outputs_ran _ _ c.map_err-6.ensures.cases c.decode.ensures
