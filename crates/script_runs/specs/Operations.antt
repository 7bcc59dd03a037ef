-- What operations mean under each of the kernels that a script may choose, as far as a script tells it.
use Rattle.mb_base.specs.declared.kernel_kind.KernelKind.{KernelKind}
use Rattle.operation_laws.specs.Kernels.{meanings_under}
use Rattle.play_terms.specs.Plays.{Meanings}

abbrev pub meanings : KernelKind → Meanings
meanings = meanings_under
