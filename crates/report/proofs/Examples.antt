-- Worked examples of specs/Report.antt, which antt computes from the definitions.
use mathlib.Core.Path.{◌≡◌, refl}
use Rattle.std.specs.Prelude.{codes}
use Rattle.answer.specs.declared.Refusal.TheVariants.{SheetLength}
use Rattle.text.specs.Digits.{decimal_within, decimal}
use Rattle.report.specs.Report.{refused_line}

refused_long : refused_line (SheetLength 65537) ≡ codes "refused 1 65537 0 0 0\n"
unfolding refused_line decimal decimal_within
refused_long = refl
