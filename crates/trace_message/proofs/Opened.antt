-- What a trace message is, opened: `unfolding opened` where one is to be computed. Assumes nothing.
use Prim.{Unit, tt}
use Rattle.trace_message.specs.Message.{coefficients, polynomial, minus, remainder, number, check7, start_byte, message, top_bits_clear, good_message, trace_check, alike}

unfoldable pub opened : Unit {0}
unfolding coefficients polynomial minus remainder number check7 start_byte message top_bits_clear good_message trace_check alike
opened = tt
