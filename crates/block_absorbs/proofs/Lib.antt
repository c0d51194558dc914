pub mod AbsorbPass
