pub mod FigureTests
