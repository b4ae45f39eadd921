-- The cases of W-201, as one statement over the list, proved by computation from the definitions. Assumes nothing.
use Rattle.std.proofs.Common.{refl}
use Rattle.memory.specs.Texts.{decimal}
use Rattle.memory.specs.Integers.{integer}
use Rattle.config.specs.Decode.{is_signed}
use Rattle.report.specs.Printing.{request_text, request_texts, answer_line, refusal_line}
use Rattle.cases.proofs.Definitions.{definitions, ◌&◌}
use Rattle.script_cases.specs.ScriptCases.{AllPrint, script_cases}
use Rattle.script_cases.proofs.ComputedScripts.{all_print}

pub script_cases_print : AllPrint script_cases
unfolding definitions decimal integer is_signed request_text request_texts answer_line refusal_line
script_cases_print =
    all_print script_cases
    (refl & refl & refl & refl & refl & refl & refl & refl & refl & refl & refl & refl & refl & refl & refl & refl & refl & refl & refl & refl
    & refl & refl & refl & refl & refl & refl & refl & refl & refl & refl & refl & refl & refl & refl & refl & tt)
