pub mod RingPlaces
