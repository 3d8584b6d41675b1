-- What is seen of a container: four of its overhead bytes, and its parity. 01, "Layouts".
use Rattle.std.specs.Prelude.{ℕ, List, get_or}
use Rattle.parity.specs.Parity.{parity_of}
use Rattle.container.specs.Container.{overhead_in}
use Rattle.monitor.specs.declared.Overhead.{Overhead}

-- "Column 1 holds J1, B3, C2, G1, .. from the top"; the parity is "the exclusive or of all" bytes, B3 among them
unfoldable pub seen_in : ℕ → List ℕ → Overhead
seen_in columns container =
    record {
      j1 = get_or (overhead_in columns container) 0 0;
      b3 = get_or (overhead_in columns container) 1 0;
      c2 = get_or (overhead_in columns container) 2 0;
      g1 = get_or (overhead_in columns container) 3 0;
      parity = parity_of container;
    }
